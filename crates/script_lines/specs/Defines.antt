-- The commands of a script from a define on.
use Rattle.std.specs.Prelude.{ℕ, ◌+◌, ◌-◌, List, [], ◌∷◌, Option, Some, None, take, drop}
use Rattle.meaning.specs.Edits.{Define}
use Rattle.meaning.specs.Script.{Command, Change, Unknown, lines, commands_from, define_from}
use Rattle.script_lines.specs.declared.lines.Line.{Line}

-- the commands from a define on that began on the line of this number, with its text from this place on and its `end` on this line
abbrev pub defined_at : List ℕ → ℕ → ℕ → Option Line → List Command
defined_at script begin begun None = Unknown begun ∷ []
defined_at script begin begun (Some end) =
    Change (Define (take (end.begin - begin) (drop begin script))) ∷ commands_from (end.number + 1) (drop 1 (lines (drop end.begin script)))

-- the commands from such a define on, of which the text has been read up to this line
abbrev pub define_going : List ℕ → ℕ → ℕ → Option Line → List Command
define_going script begin begun None = Unknown begun ∷ []
define_going script begin begun (Some line) =
    define_from begun (take (line.begin - begin) (drop begin script)) line.number (lines (drop line.begin script))
