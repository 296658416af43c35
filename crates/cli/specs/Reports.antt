-- What a session over two files, a script and a writer comes to where it ends early, and why it is not begun.
use Rattle.std.specs.Prelude.{◌≡◌, ◌⊎◌, ℕ, List, Option, Some, None, option_map, string_bytes, IsUtf8}
use Rattle.std.specs.Io.KnownBytes.{Keeps}
use Rattle.meaning.specs.Tables.{Tables}
use Rattle.linked_program.specs.Checked.{PlainChecked}
use Rattle.command_line.specs.declared.options.Options.{Options}
use Rattle.program_endings.specs.declared.session_error.SessionError.TheVariants as s
use Rattle.program_endings.specs.declared.program_error.ProgramError.{ProgramError}
use Rattle.program_endings.specs.declared.program_error.ProgramError.TheVariants.{Line, File, Prepare, Session, Trace}
use Rattle.script_session.specs.Answers.{first_answers}
use Rattle.script_session.specs.Coming.{first_so_far}
use Rattle.program_endings.specs.Endings.{CarriesRefusal}
use Rattle.program_endings.specs.Failing.{IsFailed}
use Rattle.program_endings.specs.Written.{HasBeginning, WritesRead}
use Rattle.prepared_program.specs.Preparing.{IsPrepared, IsRefused}

-- the program and the tables are those of the files that the options name, and that of the tables is text
abbrev pub IsOpened : (List ℕ → Option (List ℕ)) → Options → PlainChecked → Tables → Type 0
IsOpened held options checked tables =
    (program tables_text : List ℕ) → held options.program.now ≡ Some program → held options.tables.now ≡ Some tables_text
    → IsUtf8 tables_text × IsPrepared program tables_text checked tables

-- the bytes that are known there are no text, or none are known
abbrev pub IsNoText : Option (List ℕ) → Type 0
IsNoText None = Unit {0}
IsNoText (Some bytes) = IsUtf8 bytes → ⊥

-- a path is that of the trace's file
abbrev pub IsTrace : Options → List ℕ → Type 0
IsTrace options path = option_map (λ t. t.now) options.trace ≡ Some path

-- why no session was begun: a file first, and a text only where the tables' file is text, and then the trace's file; of a
-- session that was begun, or was to have no kits, only the path of a trace that failed is said
abbrev pub IsUnopened : (List ℕ → Option (List ℕ)) → Options → ProgramError → Type 0
IsUnopened held options (Line e) = ⊥
IsUnopened held options (File path) =
    ((string_bytes path ≡ options.program.now) × (held options.program.now ≡ None))
    ⊎ (((string_bytes path ≡ options.tables.now) × IsNoText (held options.tables.now))
    ⊎ (IsTrace options (string_bytes path) × (checked : PlainChecked) × (tables : Tables) × IsOpened held options checked tables))
IsUnopened held options (Prepare e) =
    (program tables_text : List ℕ) → held options.program.now ≡ Some program → held options.tables.now ≡ Some tables_text
    → IsUtf8 tables_text × IsRefused program tables_text e
IsUnopened held options (Session e) = Unit {0}
IsUnopened held options (Trace path) = IsTrace options (string_bytes path)

-- the error of a trace's file that can't be made
abbrev pub IsUnmade : Option (List ℕ) → ProgramError → Type 0
IsUnmade None e = ⊥
IsUnmade (Some path) e = IsFailed path e

-- an error of a session that was begun, or was to be: that of a trace has the trace's path
abbrev pub IsLate : Option (List ℕ) → ProgramError → Type 0
IsLate path (Line e) = ⊥
IsLate path (File name) = ⊥
IsLate path (Prepare e) = ⊥
IsLate path (Session e) = Unit {0}
IsLate path (Trace name) = path ≡ Some (string_bytes name)

-- nothing was written, or a beginning of the answers to this script, of some program and tables that the texts give
abbrev pub IsBegun : List ℕ → List ℕ → List ℕ → Option (List ℕ) → Option (List ℕ) → Type 0
IsBegun program tables_text script old new =
    Keeps old new
    ⊎ ((checked : PlainChecked) × (tables : Tables) × IsPrepared program tables_text checked tables
    × HasBeginning old new (first_answers checked tables script))

-- nothing was written, or a beginning of the answers, over the files that the options name, where their bytes and the script are known
abbrev pub IsBegunOver : (List ℕ → Option (List ℕ)) → Options → Option (List ℕ) → Option (List ℕ) → Option (List ℕ) → Type 0
IsBegunOver held options known old new =
    (program tables script : List ℕ) → held options.program.now ≡ Some program → held options.tables.now ≡ Some tables
    → known ≡ Some script → IsBegun program tables script old new

-- some bytes of the script were read, and the answers of such a program to the commands that are whole in them were written
abbrev pub IsReadOver : (List ℕ → Option (List ℕ)) → Options → Option (List ℕ) → Option (List ℕ) → Option (List ℕ) → Option (List ℕ) → Type 0
IsReadOver held options unread left old new =
    (program tables_text : List ℕ) → held options.program.now ≡ Some program → held options.tables.now ≡ Some tables_text
    → (checked : PlainChecked) × (tables : Tables) × IsPrepared program tables_text checked tables
    × WritesRead (first_so_far checked tables) unread left old new

-- a mismatch carries what the list of strands refused
abbrev pub ReportsRefusal : ProgramError → Type 0
ReportsRefusal (Line e) = Unit {0}
ReportsRefusal (File path) = Unit {0}
ReportsRefusal (Prepare e) = Unit {0}
ReportsRefusal (Session e) = CarriesRefusal e
ReportsRefusal (Trace path) = Unit {0}

-- the errors after which nothing of the script was read
abbrev pub ReadsNothing : ProgramError → Type 0
ReadsNothing (Line e) = Unit {0}
ReadsNothing (File path) = Unit {0}
ReadsNothing (Prepare e) = Unit {0}
ReadsNothing (Session e) = ⊥
ReadsNothing (Trace path) = ⊥

-- the errors after which nothing was written, but in a live session
abbrev pub WritesNothing : ProgramError → Type 0
WritesNothing (Line e) = Unit {0}
WritesNothing (File path) = Unit {0}
WritesNothing (Prepare e) = Unit {0}
WritesNothing (Session s.Read) = Unit {0}
WritesNothing (Session s.NoMemory) = ⊥
WritesNothing (Session s.NoKit) = ⊥
WritesNothing (Session (s.Mismatch m)) = ⊥
WritesNothing (Session s.Write) = ⊥
WritesNothing (Session s.Notes) = ⊥
WritesNothing (Trace path) = ⊥
