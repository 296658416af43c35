-- The new records of a run that has ended: those of the executed instances, but for as many as went unrecorded.
use Rattle.std.specs.Prelude.{◌≡◌, ℕ, ℤ, List, [], ◌∷◌, Some}
use Rattle.meaning.specs.Tables.{Tables}
use Rattle.meaning.specs.Outcome.{Accumulators}
use Rattle.meaning.specs.Elision.{Finished}
use Rattle.meaning.specs.Records.{Revised, needed, executed}
use Rattle.meaning.specs.Schedules.{Memory, Piece, RunStep, first_state, path, end_of}
use Rattle.strand_theory.specs.Recorded.{AllRecordedBut}

-- where a run has come to its end without a fault, its new records are those of the executed instances, but for as many as it counts as unrecorded
abbrev pub PathsRecordExecutions : Revised → Tables → Memory → Type 0
PathsRecordExecutions program tables memory = (kits : ℕ) (es : List RunStep) (p : Piece) (v : ℤ) (acc : Accumulators)
    → let s = path program tables memory (first_state program.tree kits) es in
    s.pieces ≡ p ∷ [] → end_of s ≡ Some (Finished v acc)
    → AllRecordedBut p.tally.unrecorded p.tally.made (executed program.tree (needed program tables memory.records))
