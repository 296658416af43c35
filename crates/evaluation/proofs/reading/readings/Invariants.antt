use Rattle.std.proofs.Common.{◌≡◌, map, take}
use Rattle.evaluation.specs.Short.{note_of}
use Rattle.evaluation.proofs.reading.readings.Given as goal

abbrev pub invariant-loop-note : goal.invariant-loop-note
invariant-loop-note l = map note_of l.made.items ≡ take l.note-index l.notes
