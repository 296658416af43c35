use Rattle.std.proofs.Common.{◌≡◌, ℕ, length, sym, ap, subst, ◌∙◌, w64}
use Rattle.std.proofs.lemmas.Int.{to_z-of_z}
use Rattle.std.specs.Prelude.{OnOk}
use Rattle.input_tables.proofs.Causes.{may_put, may_not_put}
use Rattle.input_tables.proofs.Numbered.{columns_at-there}
use Rattle.input_tables.proofs.tables.Tables.check_put.Goals as goal

pub returns-clause-wide : goal.returns-clause-wide
returns-clause-wide c =
    let many = c.column_count-columns.ensures ∙ sym (ap length (columns_at-there c.args.self.now.tables c.args.number c.numbered.result.now (sym c.numbered.ensures))) in
    subst (λ (n : ℕ). OnOk c.check_put.result (c.args.values ≡ n)) many c.check_put.ensures.wide

pub returns-clause-range : goal.returns-clause-range
returns-clause-range c = rw (to_z-of_z w64 _ c.ranges.row) at c.check_put.ensures.range

pub returns-clause-allowed : goal.returns-clause-allowed
returns-clause-allowed c =
    may_put c.args.self.now _ c.args.row c.edit_number.result c.numbered.result.now _ (to_z-of_z w64 _ c.ranges.row) c.edit_number.ensures (sym c.numbered.ensures)
    c.check_put.result c.args.values c.column_count-columns.result c.column_count-columns.ensures c.check_put.ensures.allowed

pub returns-clause-refused : goal.returns-clause-refused
returns-clause-refused c =
    may_not_put c.args.self.now _ c.args.row c.edit_number.result c.numbered.result.now _ (to_z-of_z w64 _ c.ranges.row) c.edit_number.ensures (sym c.numbered.ensures)
    c.check_put.result c.args.values c.column_count-columns.result c.column_count-columns.ensures c.check_put.ensures.refused
