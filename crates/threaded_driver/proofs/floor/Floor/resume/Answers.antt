use Rattle.std.proofs.Common.{◌≡◌, Some, ap, sym, ◌∙◌}
use Rattle.positions.specs.Moves.{resumed, returned_of}
use Rattle.right_strands.specs.Rightness.{PlainRight, Pushed, FitsHere}
use Rattle.worker_seats.specs.Spots.{spot_of, own_spot, child_spot}
use Rattle.threaded_driver.proofs.Binding.{bound_to, pops_fit, resumed_at, resumed_lower}
use Rattle.threaded_driver.proofs.floor.Floor.resume.Goals as goal

pub resume-requires-clause-fits : goal.resume-requires-clause-fits
resume-requires-clause-fits g c κs within =
    pops_fit c.args.seat.now.here c.args.strand.now.strand c.into_inner.result c.requires.returned c.requires.bound
    (c.in-Some.ensures.waits ∙ ap (λ (t : Pushed). Some (child_spot t)) (sym c.into_inner.ensures))

pub returns-in-Some : goal.returns-in-Some
returns-in-Some g c = record {
  bound = λ _. (let s = c.args.strand.now.strand in
      let k = c.into_inner.result in
      let fits : FitsHere s k = pops_fit c.args.seat.now.here s k c.requires.returned c.requires.bound (c.in-Some.ensures.waits ∙ ap (λ (t : Pushed). Some (child_spot t)) (sym c.into_inner.ensures)) in
      let is : c.resume.new.self.strand ≡ resumed k.task s = ap (λ (s : PlainRight). s.strand) c.resume.ensures.resumed in
      bound_to c.take.new.seat.here (own_spot k) (spot_of c.resume.new.self.strand) (c.in-Some.ensures.popped ∙ ap (λ (t : Pushed). Some (own_spot t)) (sym c.into_inner.ensures)) (ap spot_of is ∙ resumed_at s k c.requires.returned fits));
  lower = ap (λ (s : PlainRight). s.strand.lower) c.resume.ensures.resumed ∙ resumed_lower (returned_of c.args.strand.now.strand) c.into_inner.result.task c.args.strand.now.strand;
}
