use Rattle.std.proofs.Common.{rules, ◌≡◌, ◌∙◌, ◌≤◌, ap, sym, pos, true, subst}
use Rattle.evaluation.specs.Short.{note_of}
use Rattle.instance_records.specs.Full.{has_cell}
use Rattle.record_theory.specs.Same.{is_read}
use Rattle.instance_records.proofs.HadCells.{cell_there}
use Rattle.instance_records.proofs.MoreRows.{more_cells}
use Rattle.instance_records.proofs.lines.Lines.go_on.Goals as goal

pub returns-else-not-holds-clause-lines : goal.returns-else-not-holds-clause-lines
returns-else-not-holds-clause-lines c = λ _ notes there h.
    let next = c.if-not-is_next.false in
    let column = c.from-in-Cell.result in
    let small : column ≤ 255 = search rules in
    more_cells notes c.args.self.now h c.in-Cell.table c.in-Cell.row column (c.is_next.ensures.table next) (c.is_next.ensures.row next)
    (c.is_next.ensures.column next ∙ c.from.ensures ∙ sym c.from-in-Cell.ensures) small
    (ap (has_cell notes c.in-Cell.table (pos c.in-Cell.row)) c.from-in-Cell.ensures
    ∙ cell_there notes c.in-Cell.table (pos c.in-Cell.row) c.in-Cell.column _ (subst (λ r. is_read notes (note_of r) ≡ true) c.in-Cell.is there))
