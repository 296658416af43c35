use Rattle.std.proofs.Common.{◌-◌, ◌≤◌, length}
use Rattle.input_tables.specs.Pages.{lower_count}
use Rattle.input_tables.proofs.places.search.Given as goal

abbrev pub invariant-loop-low : goal.invariant-loop-low
invariant-loop-low g l = record {
  order : l.low ≤ l.high;
  within : l.high ≤ length l.entries;
  passed : l.low ≤ lower_count l.number l.entries;
  reached : lower_count l.number l.entries ≤ l.high;
}

abbrev pub decreases-loop-low : goal.decreases-loop-low
decreases-loop-low g l = l.high - l.low
