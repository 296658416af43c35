use Rattle.std.proofs.Common.{◌≡◌, ◌++◌, drop, map}
use Rattle.evaluation.specs.Short.{note_of}
use Rattle.instance_records.specs.Readings.{all_of}
use Rattle.instance_records.proofs.pairs.with_pairs.Given as goal

abbrev pub invariant-loop-part : goal.invariant-loop-part
invariant-loop-part l = map note_of l.all.items ++ all_of (drop l.part-index l.parts) ≡ map note_of l.own ++ all_of l.parts
