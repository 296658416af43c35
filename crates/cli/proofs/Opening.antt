-- Why a session that was begun doesn't go on, or not to its end.
use Rattle.std.proofs.Common.{◌≡◌, ℕ, List, Option, Some, None, option_map, sym, ap, ◌∙◌, inr}
use Rattle.meaning.specs.Tables.{Tables}
use Rattle.linked_program.specs.Checked.{PlainChecked}
use Rattle.command_line.specs.declared.options.Options.{Options}
use Rattle.program_endings.specs.declared.program_error.ProgramError.{ProgramError}
use Rattle.program_endings.specs.declared.program_error.ProgramError.TheVariants.{Line, File, Prepare, Session, Trace}
use Rattle.cli.specs.Reports.{IsOpened, IsUnopened, IsUnmade, IsLate, ReadsNothing}

-- the trace's file can't be made, once the session is begun
pub unmade_unopened : (held : List ℕ → Option (List ℕ)) (options : Options) (checked : PlainChecked) (tables : Tables) (trace : Option (List ℕ)) (e : ProgramError)
    → option_map (λ t. t.now) options.trace ≡ trace → IsUnmade trace e → IsOpened held options checked tables → IsUnopened held options e
unmade_unopened held options checked tables None e is h opened = absurd h
unmade_unopened held options checked tables (Some path) (Line e) is h opened = absurd h
unmade_unopened held options checked tables (Some path) (File name) is h opened = inr (inr (is ∙ ap Some (sym h), checked, tables, opened))
unmade_unopened held options checked tables (Some path) (Prepare e) is h opened = absurd h
unmade_unopened held options checked tables (Some path) (Session e) is h opened = tt
unmade_unopened held options checked tables (Some path) (Trace name) is h opened = absurd h

-- a session that was begun ended early
pub late_unopened : (held : List ℕ → Option (List ℕ)) (options : Options) (e : ProgramError)
    → IsLate (option_map (λ t. t.now) options.trace) e → IsUnopened held options e
late_unopened held options (Line e) h = absurd h
late_unopened held options (File name) h = absurd h
late_unopened held options (Prepare e) h = absurd h
late_unopened held options (Session e) h = tt
late_unopened held options (Trace name) h = h

-- something of its script was read then
pub late_read : (path : Option (List ℕ)) (e : ProgramError) → IsLate path e → ReadsNothing e → ⊥
late_read path (Line e) h r = absurd h
late_read path (File name) h r = absurd h
late_read path (Prepare e) h r = absurd h
late_read path (Session e) h r = absurd r
late_read path (Trace name) h r = absurd r
