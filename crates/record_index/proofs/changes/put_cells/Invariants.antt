use Rattle.std.proofs.Common.{◌≡◌, ◌≤◌, ◌++◌, option_map, length, drop, vec_capacity}
use Rattle.record_index.specs.Befores.{cells_only}
use Rattle.record_index.proofs.changes.put_cells.Given as goal

abbrev pub invariant-loop-column : goal.invariant-loop-column
invariant-loop-column l = record {
  put : l.notes.items ++ cells_only l.table l.row l.column (drop l.column l.values) (option_map (λ vs. vs.now) l.others) ≡ cells_only l.table l.row 0 l.values (option_map (λ vs. vs.now) l.others);
  few : length l.notes.items ≤ l.column;
  room : vec_capacity l.notes ≡ vec_capacity l.fn.notes;
}
