use Rattle.std.proofs.Common.{sym, w64}
use Rattle.std.proofs.lemmas.Int.{to_z-of_z}
use Rattle.input_tables.proofs.Causes.{may_delete, may_not_delete}
use Rattle.input_tables.proofs.tables.Tables.check_delete.Goals as goal

pub returns-clause-allowed : goal.returns-clause-allowed
returns-clause-allowed c =
    may_delete c.args.self.now _ c.args.row c.edit_number.result c.numbered.result.now _ (to_z-of_z w64 _ c.ranges.row) c.edit_number.ensures (sym c.numbered.ensures)
    c.check_delete.result c.has-there.result c.has-there.ensures c.check_delete.ensures.allowed

pub returns-clause-refused : goal.returns-clause-refused
returns-clause-refused c =
    may_not_delete c.args.self.now _ c.args.row c.edit_number.result c.numbered.result.now _ (to_z-of_z w64 _ c.ranges.row) c.edit_number.ensures (sym c.numbered.ensures)
    c.check_delete.result c.has-there.result c.has-there.ensures c.check_delete.ensures.refused
