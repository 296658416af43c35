use Rattle.std.proofs.Common.{◌≡◌, ◌≤◌, ◌<◌, ℕ, length}
use Rattle.input_tables.specs.Edited.{columns_at}
use Rattle.input_tables.proofs.tables.most_columns.Given as goal

abbrev pub invariant-loop-number : goal.invariant-loop-number
invariant-loop-number l = record {
  end : l.number-end ≡ length l.tables;
  most : (n : ℕ) → n < l.number → length (columns_at l.tables n) ≤ l.most;
}
