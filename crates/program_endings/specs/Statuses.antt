-- The program's exit status.
use Rattle.std.specs.Prelude.{ℕ}
use Rattle.command_line.specs.declared.options.OptionsError.TheVariants as o
use Rattle.prepared_program.specs.declared.prepare.PrepareError.TheVariants as p
use Rattle.program_endings.specs.declared.session_error.SessionError.TheVariants as s
use Rattle.program_endings.specs.declared.program_error.ProgramError.{ProgramError}
use Rattle.program_endings.specs.declared.program_error.ProgramError.TheVariants.{Line, File, Prepare, Session, Trace}

abbrev pub status_of : ProgramError → ℕ
status_of (Line o.Usage) = 2
status_of (Line o.NoMemory) = 3
status_of (Line o.Help) = 0
status_of (Line o.Version) = 0
status_of (File path) = 1
status_of (Prepare p.NoMemory) = 3
status_of (Prepare (p.Text line)) = 1
status_of (Prepare p.NotToml) = 1
status_of (Prepare (p.Shape table)) = 1
status_of (Prepare (p.Check rule name line)) = 1
status_of (Session s.NoMemory) = 3
status_of (Session s.NoKit) = 3
status_of (Session (s.Mismatch m)) = 3
status_of (Session s.Read) = 1
status_of (Session s.Write) = 1
status_of (Session s.Notes) = 1
status_of (Trace path) = 1
