use Rattle.std.proofs.Common.{sym, subst}
use Rattle.monoid_laws.specs.Kinds.{meaning, IsWorth}
use Rattle.view_pool.specs.Seen.{Seen}
use Rattle.view_pool.proofs.Kept.{IsWorth-at_once}
use Rattle.view_pool.proofs.flat_view.FlatViewView.absorb_at_once.Goals as goal

pub invariant_of-self : goal.invariant_of-self
invariant_of-self c =
    IsWorth-at_once c.combine_at_once.result c.self.inside.kind (meaning c.self.inside.value) (meaning c.combine_at_once.new.left) (meaning c.args.value.now)
    c.combine_at_once.ensures.combined c.combine_at_once.ensures.same
    (subst (λ (s : Seen). IsWorth s.kind (meaning c.args.value.now)) (sym c.self.view_is) c.requires.of_kind) c.self.invariant
