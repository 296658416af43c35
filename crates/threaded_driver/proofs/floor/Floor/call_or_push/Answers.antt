use Rattle.std.proofs.Common.{sym, ap, subst, ◌∙◌}
use Rattle.right_strands.specs.Rightness.{PlainRight}
use Rattle.stealing_deques.specs.Order.{IsBoundTo}
use Rattle.worker_seats.specs.Spots.{spot_of}
use Rattle.worker_seats.specs.declared.seat.PlainSeat.{PlainSeat}
use Rattle.threaded_driver.proofs.floor.Floor.call_or_push.Goals as goal

pub push-requires-clause-bound : goal.push-requires-clause-bound
push-requires-clause-bound g c κs within =
    subst (λ (seat : PlainSeat). IsBoundTo seat.here (spot_of c.args.strand.now.strand)) (sym c.calls_child.ensures.same) c.requires.bound

pub returns-then-calls_child : goal.returns-then-calls_child
returns-then-calls_child g c = record {
  bound = subst (λ (seat : PlainSeat). IsBoundTo seat.here (spot_of c.inline.new.self.strand)) (sym c.calls_child.ensures.same)
      (subst (λ (s : PlainRight). IsBoundTo c.args.seat.now.here (spot_of s.strand)) (sym c.inline.ensures.called) c.requires.bound);
  lower = ap (λ (s : PlainRight). s.strand.lower) c.inline.ensures.called;
}
