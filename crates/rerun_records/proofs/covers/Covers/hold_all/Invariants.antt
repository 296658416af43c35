use Rattle.std.proofs.Common.{◌≡◌, drop}
use Rattle.rerun_records.specs.Covers.{AreCoveredBut}
use Rattle.rerun_records.proofs.covers.Covers.hold_all.Given as goal

abbrev pub invariant-loop-place : goal.invariant-loop-place
invariant-loop-place l = record {
  held : AreCoveredBut (drop l.place-index l.places) l.list l.self;
  same : l.self.late ≡ l.fn.self.late;
}
