-- The commands of a script from one of its lines on.
use Rattle.std.specs.Prelude.{ℕ, List, [], Option, Some, None, drop}
use Rattle.meaning.specs.Script.{Command, lines, commands_from}
use Rattle.script_lines.specs.declared.lines.Line.{Line}

abbrev pub commands_at : List ℕ → Option Line → List Command
commands_at script None = []
commands_at script (Some line) = commands_from line.number (lines (drop line.begin script))
