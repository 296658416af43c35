use Rattle.std.proofs.Common.{refl, sym, w64}
use Rattle.std.proofs.lemmas.Int.{to_z-of_z}
use Rattle.input_tables.proofs.Notes.{noted_then}
use Rattle.input_tables.proofs.tables.Tables.note_row.Goals as goal

pub returns-clause-noted : goal.returns-clause-noted
returns-clause-noted c =
    noted_then c.args.other.now.tables c.args.number c.numbered-table.result.now _ c.args.row c.note.new.self.was c.note.new.self.was (to_z-of_z w64 _ c.ranges.row)
    (sym c.numbered-table.ensures) c.note.ensures.table c.note.ensures.row c.note.ensures.values c.note.ensures.limit c.note.ensures.sums c.note.ensures.wide refl
