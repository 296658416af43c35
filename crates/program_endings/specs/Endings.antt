-- By which errors the parts of a session may end.
use Rattle.std.specs.Prelude.{◌≡◌, ◌⊎◌}
use Rattle.strand_list.specs.declared.error.BookError.{BookError}
use Rattle.strand_list.specs.declared.error.BookError.TheVariants as refusal
use Rattle.sync_fold.specs.Refusals.{WasRefused}
use Rattle.sync_fold.specs.declared.refusal.Mismatch as declared
use Rattle.program_endings.specs.declared.session_error.SessionError.{SessionError}
use Rattle.program_endings.specs.declared.session_error.SessionError.TheVariants.{NoMemory, NoKit, Mismatch, Read, Write, Notes}

abbrev pub IsReaderError : SessionError → Type 0
IsReaderError error = (error ≡ NoMemory) ⊎ (error ≡ Read)

abbrev pub IsWriterError : SessionError → Type 0
IsWriterError error = (error ≡ NoMemory) ⊎ (error ≡ Write)

abbrev pub IsRunError : SessionError → Type 0
IsRunError error = (error ≡ NoMemory) ⊎ ((error ≡ NoKit) ⊎ ((m : declared.Mismatch) × (error ≡ Mismatch m)))

-- a run's, and that it couldn't be noted
abbrev pub IsAnswerError : SessionError → Type 0
IsAnswerError error = IsRunError error ⊎ (error ≡ Notes)

-- a call of the list of strands was refused so, which is no want of memory and not for strands that are apart
abbrev pub IsOfTheList : BookError → Type 0
IsOfTheList e = (¬ (e ≡ refusal.NoMemory)) × (WasRefused e × (¬ (e ≡ refusal.NotNeighbour)))

-- a mismatch carries why the list of strands refused a worker
abbrev pub CarriesRefusal : SessionError → Type 0
CarriesRefusal NoMemory = Unit {0}
CarriesRefusal NoKit = Unit {0}
CarriesRefusal (Mismatch m) = IsOfTheList m.refusal
CarriesRefusal Read = Unit {0}
CarriesRefusal Write = Unit {0}
CarriesRefusal Notes = Unit {0}
