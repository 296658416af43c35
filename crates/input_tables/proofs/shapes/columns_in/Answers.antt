use Rattle.std.proofs.Common.{◌≡◌, ◌&&◌, true, false, nat_le, length, refl, sym, ◌∙◌}
use Rattle.input_tables.proofs.Counts.{item_count-view}
use Rattle.input_tables.proofs.shapes.columns_in.Goals as goal

pub returns-then-not-is_column_count-clause-refused : goal.returns-then-not-is_column_count-clause-refused
returns-then-not-is_column_count-clause-refused c =
    let n = length c.args.items.now in
    let few : (nat_le 1 n && nat_le n 8) ≡ false = sym c.is_column_count.ensures ∙ c.if-not-is_column_count.true in
    rw (item_count-view c.args.items.now, few) refl

pub returns-clause-read : goal.returns-clause-read
returns-clause-read c =
    let n = length c.args.items.now in
    let fit : (nat_le 1 n && nat_le n 8) ≡ true = sym c.is_column_count.ensures ∙ c.if-not-is_column_count.false in
    rw (item_count-view c.args.items.now, fit) c.columns_from.ensures.read

pub returns-clause-refused : goal.returns-clause-refused
returns-clause-refused c =
    let n = length c.args.items.now in
    let fit : (nat_le 1 n && nat_le n 8) ≡ true = sym c.is_column_count.ensures ∙ c.if-not-is_column_count.false in
    rw (item_count-view c.args.items.now, fit) c.columns_from.ensures.refused
