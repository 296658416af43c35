use Rattle.std.proofs.Common.{◌≡◌, ℕ, ◌<◌, ◌≤◌, ◌*◌, length, slice_index}
use Rattle.reducer_kinds.proofs.table_rows.table_of.Given as goal

abbrev pub invariant-loop-i : goal.invariant-loop-i
invariant-loop-i l = record {
  unit_in : l.unit < l.size;
  few : l.size ≤ 16;
  count : length l.numbers ≡ l.size * l.size;
  kept : length l.cells ≡ 256;
  below : (k : ℕ) → k < l.i → slice_index l.numbers k < l.size;
  copied : (k : ℕ) → k < l.i → slice_index l.cells k ≡ slice_index l.numbers k;
  rest : (k : ℕ) → l.i ≤ k → slice_index l.cells k ≡ 0;
}
