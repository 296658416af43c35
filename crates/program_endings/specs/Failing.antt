-- What a file that fails is to the program.
use Rattle.std.specs.Prelude.{◌≡◌, ℕ, List, string_bytes}
use Rattle.program_endings.specs.declared.session_error.SessionError.TheVariants as s
use Rattle.program_endings.specs.declared.program_error.ProgramError.{ProgramError}
use Rattle.program_endings.specs.declared.program_error.ProgramError.TheVariants.{Line, File, Prepare, Session, Trace}

-- the error of a file that failed: its path, or want of memory
abbrev pub IsFailed : List ℕ → ProgramError → Type 0
IsFailed path (Line e) = ⊥
IsFailed path (File name) = string_bytes name ≡ path
IsFailed path (Prepare e) = ⊥
IsFailed path (Session e) = e ≡ s.NoMemory
IsFailed path (Trace name) = ⊥
