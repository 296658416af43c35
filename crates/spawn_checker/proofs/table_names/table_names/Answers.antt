use Rattle.std.proofs.Common.{◌≡◌, Some, map, string_bytes, slice_get, ◌∙◌, ap}
use Rattle.input_tables.specs.Edited.{names_of, columns_at}
use Rattle.spawn_checker.proofs.Named.{named_push}
use Rattle.spawn_checker.proofs.table_names.table_names.Goals as goal

pub loop-number-preserved : goal.loop-number-preserved
loop-number-preserved c =
    let ts = c.args.tables.now.tables in
    let n = c.loop-number.number in
    let name : Some (string_bytes c.in_ok-name.name) ≡ slice_get (names_of ts) n = ap Some c.in_ok-name.ensures.ok ∙ c.name.ensures in
    let columns : map string_bytes c.in_ok-columns.columns.items ≡ columns_at ts n = c.in_ok-columns.ensures ∙ c.columns.ensures in
    rw c.in_ok-push.ensures.items (named_push ts c.loop-number.made.items n (record { name = c.in_ok-name.name; columns = c.in_ok-columns.columns }) c.loop-number.invariant name columns)
