use Rattle.std.proofs.Common.{◌≡◌, ◌∙◌, ap, pos, true, subst}
use Rattle.evaluation.specs.Short.{note_of}
use Rattle.instance_records.specs.Full.{has_cell}
use Rattle.record_theory.specs.Same.{is_read}
use Rattle.instance_records.proofs.HadCells.{cell_there}
use Rattle.instance_records.proofs.lines.Lines.turn.Goals as goal

pub returns-in-Cell : goal.returns-in-Cell
returns-in-Cell c = record {
  lines = λ notes there h.
      c.turn_to.ensures.lines notes
      (ap (has_cell notes c.in-Cell.table (pos c.in-Cell.row)) c.from.ensures
      ∙ cell_there notes c.in-Cell.table (pos c.in-Cell.row) c.in-Cell.column _ (subst (λ r. is_read notes (note_of r) ≡ true) c.in-Cell.is there)) h;
}
