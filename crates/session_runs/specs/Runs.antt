-- What a run leaves of a session, and that its answer is the elision's.
use Rattle.std.specs.Prelude.{◌≡◌, List, [], map, length}
use Rattle.monoid_laws.specs.Kinds.{meaning}
use Rattle.meaning.specs.TreeView.{tree}
use Rattle.meaning.specs.Edits.{Standing}
use Rattle.meaning.specs.Elision as elision
use Rattle.meaning.specs.Elision.{from_scratch}
use Rattle.meaning.specs.Records.{needed, executed}
use Rattle.linked_program.specs.Checked.{revised_of}
use Rattle.record_theory.specs.Record.{PlainRecord, as_made}
use Rattle.record_theory.specs.Commits.{put_records}
use Rattle.positions.specs.Stands.{fault_in}
use Rattle.positions.specs.declared.answer.RunAnswer.{RunAnswer}
use Rattle.positions.specs.declared.answer.RunAnswer.TheVariants as answer
use Rattle.numbered_runs.specs.Sound.{AreSoundFor}
use Rattle.numbered_runs.specs.Recorded.{HasRecordedBy}
use Rattle.kept_session.specs.Sessions.{PlainSession, standing_of}

-- a result or a fault is that of the elision of the program on the tables, done from scratch
abbrev pub IsFromScratch : Standing → RunAnswer → Type 0
IsFromScratch s (answer.Finished v values n m k) = from_scratch s.program.tree s.tables ≡ elision.Finished v (map meaning values.items)
IsFromScratch s (answer.Fault f) = from_scratch s.program.tree s.tables ≡ elision.Faulted (fault_in s.program.tree f)
IsFromScratch s _ = Unit {0}

-- after a run that has finished the records are those before with its own put in, else those before; but for their numbers
abbrev pub LeavesRecords : PlainSession → RunAnswer → List PlainRecord → Type 0
LeavesRecords s (answer.Finished v values n m k) records =
    (made : List PlainRecord) × HasRecordedBy s.checked s.tables s.records (answer.Finished v values n m k) made
    × (map as_made records ≡ put_records (map as_made s.records) made)
LeavesRecords s _ records = map as_made records ≡ map as_made s.records

-- by records that the session's stand for nothing is left to execute
pub record NeedsNothing (s : PlainSession) : Type 0 where
  pub sound : AreSoundFor s.checked s.records
  pub nothing : executed (tree s.checked.program) (needed (revised_of s.checked) s.tables.tables sound.kept) ≡ []

-- after a run that has finished and left no instance unrecorded
abbrev pub IsQuietAfter : RunAnswer → PlainSession → Type 0
IsQuietAfter (answer.Finished v values n m k) s = k ≡ 0 → NeedsNothing s
IsQuietAfter _ s = Unit {0}

-- what a run leaves of a session: its program and tables, as many kits, and the records
pub record IsAfterRun (s : PlainSession) (given : RunAnswer) (t : PlainSession) : Type 0 where
  pub elision : IsFromScratch (standing_of s) given
  pub recorded : LeavesRecords s given t.records
  pub quiet : IsQuietAfter given t
  pub rest : t ≡ record s { kits = t.kits; records = t.records; inlined = t.inlined }
  pub free : length t.kits.kits ≡ length s.kits.kits
  pub total : t.kits.total ≡ s.kits.total
