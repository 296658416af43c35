use Rattle.std.proofs.Common.{◌≡◌, drop, map}
use Rattle.numbered_runs.specs.Named.{line}
use Rattle.strand_lines.specs.Lines.{has_strand}
use Rattle.strand_lines.proofs.places.has_strand.Given as goal

abbrev pub invariant-loop-line : goal.invariant-loop-line
invariant-loop-line l = has_strand l.place (map line l.lines) ≡ has_strand l.place (map line (drop l.line-index l.lines))
