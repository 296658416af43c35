use Rattle.std.proofs.Common.{◌≡◌, ◌++◌, drop, map}
use Rattle.evaluation.specs.Short.{note_of}
use Rattle.instance_records.proofs.walks.put_own.Given as goal

abbrev pub invariant-loop-reading : goal.invariant-loop-reading
invariant-loop-reading l = l.notes.items ++ map note_of (drop l.reading-index l.own) ≡ l.fn.notes.items ++ map note_of l.own
