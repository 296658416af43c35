use Rattle.std.proofs.Common.{◌≡◌, drop}
use Rattle.std.specs.List.{list_any}
use Rattle.evaluation.specs.Short.{note_of}
use Rattle.record_theory.specs.InStep.{rests_on}
use Rattle.instance_records.proofs.touching.is_among.Given as goal

abbrev pub invariant-loop-change : goal.invariant-loop-change
invariant-loop-change l = list_any (rests_on (note_of l.reading)) l.changes ≡ list_any (rests_on (note_of l.reading)) (drop l.change-index l.changes)
