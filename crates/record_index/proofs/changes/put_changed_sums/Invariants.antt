use Rattle.std.proofs.Common.{◌≡◌, ◌≤◌, ◌+◌, ◌++◌, length, drop, vec_capacity}
use Rattle.record_index.specs.Befores.{sums_only, sums_from}
use Rattle.record_index.proofs.changes.put_changed_sums.Given as goal

abbrev pub invariant-loop-column : goal.invariant-loop-column
invariant-loop-column l = record {
  lost : l.lost.items ++ sums_only l.table l.column (drop l.column l.sums) (sums_from l.tables.tables l.table 0 (length l.sums))
      ≡ l.fn.lost.items ++ sums_only l.table 0 l.sums (sums_from l.tables.tables l.table 0 (length l.sums));
  won : l.won.items ++ sums_only l.table l.column (drop l.column (sums_from l.tables.tables l.table 0 (length l.sums))) l.sums
      ≡ l.fn.won.items ++ sums_only l.table 0 (sums_from l.tables.tables l.table 0 (length l.sums)) l.sums;
  few : length l.lost.items ≤ length l.fn.lost.items + l.column;
  few_won : length l.won.items ≤ length l.fn.won.items + l.column;
  room : vec_capacity l.lost ≡ vec_capacity l.fn.lost;
  room_won : vec_capacity l.won ≡ vec_capacity l.fn.won;
}
