use Rattle.std.proofs.Common.{rules, ◌≡◌}
use Rattle.positions.specs.declared.phase.Fault.{Fault}
use Rattle.positions.specs.declared.phase.Phase.TheVariants.{Broken, Leaving}
use Rattle.positions.specs.Moves.{FoldsViews}
use Rattle.strand_moves.proofs.Results.{on_err_left}
use Rattle.strand_moves.proofs.Folding.{folds}
use Rattle.strand_moves.proofs.joining.take_up.Goals as goal

pub returns-in_default-phase : goal.returns-in_default-phase
returns-in_default-phase g c =
    let leaving : c.args.machine.now.phase ≡ Leaving c.in-Leaving.value = search rules in
    let unbroken : (f : Fault) → c.args.right.now.phase ≡ Broken f → ⊥ = search rules in
    record {
      joined = search rules;
      kinds = c.join_ended.ensures.kinds;
      made = c.join_ended.ensures.made;
      left_kept = c.join_ended.ensures.left_kept;
      right_kept = c.join_ended.ensures.right_kept;
      product = c.join_ended.ensures.product;
      views = on_err_left (FoldsViews c.args.machine.now.phase c.args.right.now.phase) _ (folds c.args.machine.now.phase c.args.right.now.phase c.in-Leaving.value leaving unbroken) c.join_ended.result;
    }
