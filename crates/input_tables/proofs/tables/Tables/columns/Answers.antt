use Rattle.std.proofs.Common.{◌≡◌, Some, length, ap, sym, ◌∙◌, ◌<◌}
use Rattle.std.proofs.lemmas.Option.{slice_get-get_or}
use Rattle.std.specs.Prelude.{slice_get}
use Rattle.input_tables.proofs.Numbered.{columns_at-there}
use Rattle.input_tables.proofs.tables.Tables.columns.Goals as goal

pub returns : goal.returns
returns c =
    let within : c.args.table < length c.self.inside.listed.items = rw (← c.self.view_is) at c.requires in
    let here : slice_get c.self.inside.listed.items c.args.table ≡ Some c.index.result.now =
    slice_get-get_or c.self.inside.listed.items c.args.table c.index.result.now within ∙ ap Some (sym c.index.ensures)
    in
    rw (← c.self.view_is) (c.columns.ensures ∙ sym (columns_at-there c.self.inside.listed.items c.args.table c.index.result.now here))
