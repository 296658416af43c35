-- What a file's normal form comes to on a writer, and why it is not printed.
use Rattle.std.specs.Prelude.{◌≡◌, ◌⊎◌, ℕ, List, Option, Some, None, string_bytes}
use Rattle.std.specs.Io.KnownBytes.{Appends, Keeps}
use Rattle.token_readers.specs.declared.fault.TextError.{TextError}
use Rattle.token_readers.specs.declared.fault.TextError.TheVariants as refused
use Rattle.prepared_program.specs.declared.prepare.PrepareError.{PrepareError}
use Rattle.prepared_program.specs.declared.prepare.PrepareError.TheVariants as prepare
use Rattle.prepared_program.specs.Preparing.{IsNoProgram}
use Rattle.program_endings.specs.declared.session_error.SessionError.TheVariants as session
use Rattle.program_endings.specs.declared.program_error.ProgramError.{ProgramError}
use Rattle.program_endings.specs.declared.program_error.ProgramError.TheVariants.{Line, File, Prepare, Session, Trace}
use Rattle.program_endings.specs.Endings.{IsWriterError}
use Rattle.program_endings.specs.Written.{HasBeginning}
use Rattle.printing_theory.specs.Normal.{IsNormalForm}

-- the normal form of the file, where its bytes are known, was written
abbrev pub IsFormattedOver : (List ℕ → Option (List ℕ)) → List ℕ → Option (List ℕ) → Option (List ℕ) → Type 0
IsFormattedOver held path old new =
    (program : List ℕ) → held path ≡ Some program → (text : List ℕ) × IsNormalForm program text × Appends old new text

-- nothing, or a beginning of it, was written
abbrev pub IsBegunOver : (List ℕ → Option (List ℕ)) → List ℕ → Option (List ℕ) → Option (List ℕ) → Type 0
IsBegunOver held path old new =
    (program : List ℕ) → held path ≡ Some program
    → Keeps old new ⊎ ((text : List ℕ) × IsNormalForm program text × HasBeginning old new text)

-- what the refusal of a text is to the program
abbrev pub IsRefusal : TextError → ProgramError → Type 0
IsRefusal refused.NoMemory e = e ≡ Session session.NoMemory
IsRefusal (refused.Text line) e = e ≡ Prepare (prepare.Text line)

-- a text is refused: it is no program's, and that is its first fault
abbrev pub IsTextRefused : List ℕ → PrepareError → Type 0
IsTextRefused program prepare.NoMemory = ⊥
IsTextRefused program (prepare.Text line) = IsNoProgram program line
IsTextRefused program prepare.NotToml = ⊥
IsTextRefused program (prepare.Shape table) = ⊥
IsTextRefused program (prepare.Check rule name line) = ⊥

-- why a file isn't printed: it can't be read, its text is refused, or memory or the writer
abbrev pub IsUnformatted : (List ℕ → Option (List ℕ)) → List ℕ → ProgramError → Type 0
IsUnformatted held path (Line e) = ⊥
IsUnformatted held path (File name) = (string_bytes name ≡ path) × (held path ≡ None)
IsUnformatted held path (Prepare e) = (program : List ℕ) → held path ≡ Some program → IsTextRefused program e
IsUnformatted held path (Session e) = IsWriterError e
IsUnformatted held path (Trace name) = ⊥

-- the errors of a file that isn't printed
abbrev pub IsFormatError : ProgramError → Type 0
IsFormatError (Line e) = ⊥
IsFormatError (File name) = Unit {0}
IsFormatError (Prepare e) = Unit {0}
IsFormatError (Session e) = IsWriterError e
IsFormatError (Trace name) = ⊥

-- those before anything is written
abbrev pub IsEarly : ProgramError → Type 0
IsEarly (Line e) = ⊥
IsEarly (File name) = Unit {0}
IsEarly (Prepare e) = Unit {0}
IsEarly (Session e) = ⊥
IsEarly (Trace name) = ⊥
