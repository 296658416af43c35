use Rattle.std.proofs.Common.{◌≡◌, drop, map}
use Rattle.meaning.specs.Every.{every}
use Rattle.evaluation.specs.Short.{note_of}
use Rattle.record_theory.specs.Validity.{note_agrees}
use Rattle.record_theory.proofs.agreement.reads_agree.Given as goal

abbrev pub invariant-loop-reading : goal.invariant-loop-reading
invariant-loop-reading l = every (note_agrees l.tables.tables) (map note_of l.reads) ≡ every (note_agrees l.tables.tables) (map note_of (drop l.reading-index l.reads))
