use Rattle.std.proofs.Common.{rules, ◌≡◌, All, subst, sym}
use Rattle.std.proofs.lemmas.List.Elements.{All-push}
use Rattle.worker_seats.proofs.seat.seats_of.Goals as goal

-- The new seat has left nobody, like those before it.
pub loop-owner-preserved : goal.loop-owner-preserved
loop-owner-preserved g c = (
  search rules,
  search rules,
  search rules,
  subst (All (λ seat. seat.left ≡ 0)) (sym c.in_ok-push.ensures.items)
      (All-push (λ seat. seat.left ≡ 0) c.loop-owner.seats.items c.new.result c.loop-owner.invariant.3 c.new.ensures.none),
)
