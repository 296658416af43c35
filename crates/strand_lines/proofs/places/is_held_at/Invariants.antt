use Rattle.std.proofs.Common.{◌≡◌, drop, map}
use Rattle.meaning.specs.Strands.{is_held_at}
use Rattle.numbered_runs.specs.Named.{line}
use Rattle.strand_lines.proofs.places.is_held_at.Given as goal

abbrev pub invariant-loop-line : goal.invariant-loop-line
invariant-loop-line l = is_held_at (map line l.lines) l.place ≡ is_held_at (map line (drop l.line-index l.lines)) l.place
