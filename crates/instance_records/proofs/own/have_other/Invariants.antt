use Rattle.std.proofs.Common.{◌≡◌, drop, map}
use Rattle.evaluation.specs.Short.{note_of}
use Rattle.record_theory.specs.Same.{is_read}
use Rattle.instance_records.proofs.own.have_other.Given as goal

abbrev pub invariant-loop-reading : goal.invariant-loop-reading
invariant-loop-reading l = is_read (map note_of l.own) l.note ≡ is_read (map note_of (drop l.reading-index l.own)) l.note
