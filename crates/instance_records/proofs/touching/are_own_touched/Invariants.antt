use Rattle.std.proofs.Common.{◌≡◌, drop, map}
use Rattle.std.specs.List.{list_any}
use Rattle.evaluation.specs.Short.{note_of}
use Rattle.record_theory.specs.InStep.{rests_on}
use Rattle.instance_records.proofs.touching.are_own_touched.Given as goal

abbrev pub invariant-loop-reading : goal.invariant-loop-reading
invariant-loop-reading l = list_any (λ note. list_any (rests_on note) l.changes) (map note_of l.own) ≡ list_any (λ note. list_any (rests_on note) l.changes) (map note_of (drop l.reading-index l.own))
