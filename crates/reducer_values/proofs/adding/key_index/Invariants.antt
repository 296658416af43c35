use Rattle.std.proofs.Common.{◌≡◌, ℤ, ◌<◌, ◌≤◌, ◌-◌, ◌≤ℤ◌, length, take, drop, ◌++◌, slice_index_or}
use Rattle.monoid_laws.specs.Kinds.{add_at}
use Rattle.reducer_values.proofs.adding.key_index.Given as goal

abbrev pub invariant-loop-low : goal.invariant-loop-low
invariant-loop-low l = record {
  order : l.low ≤ l.high;
  within : l.high ≤ length l.amounts;
  passed : (v : ℤ) → add_at l.key v l.amounts ≡ take l.low l.amounts ++ add_at l.key v (drop l.low l.amounts);
  reached : (e : ℤ × ℤ) → l.high < length l.amounts → e ≡ slice_index_or l.amounts l.high e → l.key ≤ℤ e.0;
}

abbrev pub decreases-loop-low : goal.decreases-loop-low
decreases-loop-low l = l.high - l.low
