use Rattle.std.proofs.Common.{rules, ◌≡◌, sym, subst, OnOk}
use Rattle.positions.specs.Strands.{PlainStrand}
use Rattle.positions.specs.Moves.{joined}
use Rattle.positions.specs.Simulation.{IsJoined}
use Rattle.position_theory.proofs.Joins.{joined_is}
use Rattle.strand_moves.specs.Joins.{IsDone, with_worths}
use Rattle.frames.proofs.Whole.{worths_whole, joined_or}
use Rattle.strand_moves.proofs.Results.{on_ok}
use Rattle.frames.proofs.strand.Strand.join.Goals as goal

pub invariant_of-result : goal.invariant_of-result
invariant_of-result g c =
    let kept : c.in-Err.machine ≡ with_worths c.in-Err.machine.layer.worths c.right.inside.machine = search rules in
    worths_whole c.right.inside.machine c.in-Err.machine kept c.right.invariant

pub invariant_of-self : goal.invariant_of-self
invariant_of-self g c =
    let done : IsDone c.self.inside.machine.phase = subst (λ (s : PlainStrand). IsDone s.phase) (sym c.self.view_is) c.requires.done in
    let same : c.self.inside.machine.layer.kinds ≡ c.right.inside.machine.layer.kinds = search rules in
    joined_or c.self.inside.machine c.right.inside.machine c.join.new.machine c.join.result done c.join.ensures.joined c.join.ensures.left_kept c.join.ensures.made same c.self.invariant c.right.invariant

pub returns-clause-definition : goal.returns-clause-definition
returns-clause-definition g c setting =
    let l = c.args.self.now in
    let r = c.args.right in
    let new = c.join.new.machine in
    let is : OnOk c.match-join.result (new ≡ joined l r) = search rules in
    on_ok (new ≡ joined l r) (IsJoined setting l r new) (λ e. subst (λ (z : PlainStrand). IsJoined setting l r z) (sym e) (joined_is setting l r)) c.match-join.result is
