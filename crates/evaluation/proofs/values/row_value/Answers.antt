use Rattle.std.proofs.Common.{rules, ℤ, List, refl, subst, w64, FitsSigned}
use Rattle.std.proofs.lemmas.Int.{to_z-of_z}
use Rattle.linked_program.specs.CodeView.{on_row}
use Rattle.evaluation.specs.declared.note.Note.{Note}
use Rattle.evaluation.specs.Values.{value_at}
use Rattle.evaluation.specs.Ends.{Stops}
use Rattle.evaluation.proofs.Rows.{noted_end}
use Rattle.evaluation.proofs.values.row_value.Goals as goal

pub returns-in-Some : goal.returns-in-Some
returns-in-Some c =
    let fits_left : FitsSigned w64 c.in-Some.left = search rules in
    let fits_right : FitsSigned w64 c.in-Some.right = search rules in
    let joined = rw (to_z-of_z w64 c.in-Some.left fits_left, to_z-of_z w64 c.in-Some.right fits_right) at c.applied.ensures in
    record {
      stops = noted_end c.args.tables.now.tables c.args.slots.now c.args.operator c.args.cells.now c.in-Some.left c.in-Some.right c.args.notes.now c.both_at_once.new.notes
          c.applied.result c.in-Some.ensures.found joined;
    }

pub returns-in-None : goal.returns-in-None
returns-in-None c =
    let whole = value_at c.args.tables.now.tables c.args.slots.now (on_row c.args.operator c.args.cells.now) in
    record {
      stops = subst (λ (ns : List Note). Stops {A = ℤ} {B = ℤ} (λ v. v) whole ns c.cells_in_turn.new.notes c.cells_in_turn.result) (c.in-None.ensures.same refl) c.cells_in_turn.ensures.stops;
    }
