use Rattle.std.proofs.Common.{sym, ap, subst, ◌∙◌}
use Rattle.right_strands.specs.Rightness.{PlainRight}
use Rattle.stealing_deques.specs.Order.{IsBoundTo}
use Rattle.worker_seats.specs.Spots.{spot_of}
use Rattle.worker_seats.specs.declared.seat.PlainSeat.{PlainSeat}
use Rattle.threaded_driver.proofs.Binding.{spawned_at, attached_bound, task_goes_on}
use Rattle.threaded_driver.proofs.floor.Floor.push.Goals as goal

pub push-requires-clause-goes_on : goal.push-requires-clause-goes_on
push-requires-clause-goes_on g c κs within = task_goes_on g.J.Run.setting c.detach-task.result c.upheld.ensures.sound c.upheld-2.ensures.right

pub push-requires-clause-bound : goal.push-requires-clause-bound
push-requires-clause-bound g c κs within =
    subst (IsBoundTo c.args.seat.now.here) (spawned_at c.args.strand.now.strand c.detach-task.result c.detach-task.ensures.since c.detach-task.ensures.place c.detach-task.ensures.below) c.requires.bound

pub returns-in-Err : goal.returns-in-Err
returns-in-Err g c = record {
  bound = subst (λ (seat : PlainSeat). IsBoundTo seat.here (spot_of c.attach.new.self.strand)) (sym c.in-Err.ensures.same)
      (attached_bound c.args.seat.now.here c.args.strand.now.strand c.detach-task.new.self.strand c.attach.new.self.strand c.detach-task.result c.in-Err.task c.detach-task.ensures.below c.in-Err.ensures.back (ap (λ (s : PlainRight). s.strand) c.detach-task.ensures.child) (ap (λ (s : PlainRight). s.strand) c.attach.ensures.called) c.requires.bound);
  lower = ap (λ (s : PlainRight). s.strand.lower) c.attach.ensures.called ∙ ap (λ (s : PlainRight). s.strand.lower) c.detach-task.ensures.child;
}
