use Rattle.std.proofs.Common.{◌≡◌, drop, map}
use Rattle.std.specs.List.{list_any}
use Rattle.evaluation.specs.Short.{note_of}
use Rattle.record_theory.specs.Same.{same_note}
use Rattle.positions.proofs.readings.is_among.Given as goal

abbrev pub invariant-loop-other : goal.invariant-loop-other
invariant-loop-other l = list_any (same_note (note_of l.reading)) (map note_of (drop l.other-index l.seen)) ≡ list_any (same_note (note_of l.reading)) (map note_of l.seen)
