-- What the commands of the code say.
use Rattle.std.specs.Prelude.{ℕ, List, Option, Some, None, option_map}
use Rattle.meaning.specs.Edits as e
use Rattle.meaning.specs.Edits.{Define}
use Rattle.meaning.specs.Script as s
use Rattle.session_edits.specs.Said as edits
use Rattle.session_edits.specs.declared.edit.Edit.{Edit}
use Rattle.script_reader.specs.declared.command.Command.{Command}
use Rattle.script_reader.specs.declared.command.Command.TheVariants.{Run, Change, Unknown}
use Rattle.script_reader.specs.declared.open_script.Begun.{Begun}
use Rattle.script_reader.specs.declared.open_script.Found.{Found}
use Rattle.script_reader.specs.declared.open_script.Found.TheVariants as brought

abbrev pub said : Command → s.Command
said Run = s.Run
said (Change edit) = s.Change (edits.said edit)
said (Unknown n line) = s.Unknown n

-- what a command says, if there is one
abbrev pub maybe_said : Option Command → Option s.Command
maybe_said found = option_map said found

-- what an edit says, if there is one
abbrev pub said_edit : Option Edit → Option e.Edit
said_edit found = option_map edits.said found

-- the command that a line brings, if it brings one
abbrev pub said_found : Found → Option s.Command
said_found brought.Nothing = None
said_found (brought.Command command) = Some (said command)
said_found (brought.Define text) = Some (s.Change (Define text.items))

-- the number of a define's line and its text so far, if one has no `end` yet
abbrev pub begun_of : Option Begun → Option (ℕ × List ℕ)
begun_of begun = option_map (λ b. (b.number, b.text.items)) begun
