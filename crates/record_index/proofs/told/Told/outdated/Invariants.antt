use Rattle.std.proofs.Common.{◌≡◌, ◌≤◌, ◌+◌, drop}
use Rattle.record_index.specs.Counts.{outdated_count}
use Rattle.record_index.proofs.told.Told.outdated.Given as goal

abbrev pub invariant-loop-place : goal.invariant-loop-place
invariant-loop-place l = record {
  counted : l.count + outdated_count l.self (drop l.place l.entered) ≡ outdated_count l.self l.entered;
  few : l.count ≤ l.place;
}
