use Rattle.std.proofs.Common.{◌≡◌, ◌<◌, Some, length, refl, subst, sym, ◌∙◌, ap, w64}
use Rattle.std.specs.Prelude.{slice_get}
use Rattle.std.proofs.lemmas.Option.{slice_get_read}
use Rattle.std.proofs.lemmas.Int.{to_z-of_z}
use Rattle.meaning.specs.Tables.{Listed}
use Rattle.input_tables.specs.Edited.{Edited, row_out_of}
use Rattle.input_tables.proofs.Notes.{noted_then, own_columns, no_more_set}
use Rattle.input_tables.proofs.Numbered.{set_at}
use Rattle.input_tables.proofs.tables.Tables.take_row.Goals as goal

pub returns-clause-tables : goal.returns-clause-tables
returns-clause-tables c =
    let within : c.args.number < length c.self.inside.listed.items = subst (λ (e : Edited). c.args.number < length e.tables) (sym c.self.view_is) c.requires.within in
    let there : slice_get c.self.inside.listed.items c.args.number ≡ Some c.index_mut-table.result.now =
    slice_get_read c.self.inside.listed.items _ c.args.number _ refl within c.index_mut-table.ensures.value in
    rw (← c.self.view_is) (c.count_edit.ensures.tables ∙ set_at (row_out_of c.args.row) c.self.inside.listed.items c.args.number c.index_mut-table.result.now c.delete.new.self there
    (rw (to_z-of_z w64 _ c.ranges.row) at c.delete.ensures.gone))

pub note-requires : goal.note-requires
note-requires c =
    let ts = c.self.inside.listed.items in
    let within : c.args.number < length ts = subst (λ (e : Edited). c.args.number < length e.tables) (sym c.self.view_is) c.requires.within in
    record { room = own_columns ts c.args.number c.self.inside.before.room c.index.result.now (slice_get_read ts _ c.args.number _ refl within c.index.ensures) c.self.invariant.0 }

pub invariant_of-self : goal.invariant_of-self
invariant_of-self c =
    let ts = c.self.inside.listed.items in
    let within : c.args.number < length ts = subst (λ (e : Edited). c.args.number < length e.tables) (sym c.self.view_is) c.requires.within in
    let there : slice_get ts c.args.number ≡ Some c.index_mut-table.result.now = slice_get_read ts _ c.args.number _ refl within c.index_mut-table.ensures.value in
    let columns = ap (λ (t : Listed). t.columns) c.delete.ensures.gone in (
      rw c.note.ensures.room (no_more_set ts c.args.number c.self.inside.before.room c.index_mut-table.result.now c.delete.new.self there columns c.self.invariant.0),
      no_more_set ts c.args.number c.self.inside.next.room c.index_mut-table.result.now c.delete.new.self there columns c.self.invariant.1,
    )

pub returns-clause-noted : goal.returns-clause-noted
returns-clause-noted c =
    let ts = c.self.inside.listed.items in
    let within : c.args.number < length ts = subst (λ (e : Edited). c.args.number < length e.tables) (sym c.self.view_is) c.requires.within in
    rw (← c.self.view_is) (noted_then ts c.args.number c.index.result.now _ c.args.row c.note.new.self.was c.count_edit.new.self.was (to_z-of_z w64 _ c.ranges.row)
    (slice_get_read ts _ c.args.number _ refl within c.index.ensures) c.note.ensures.table c.note.ensures.row c.note.ensures.values c.note.ensures.limit c.note.ensures.sums c.note.ensures.wide
    c.count_edit.ensures.was)
