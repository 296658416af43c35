-- A script of which some lines have come: which command the next one ends, what is left of the script then, and which commands are whole in a beginning of it.
use Rattle.std.specs.Prelude.{ℕ, ◌+◌, ◌-◌, ◌≡◌, cond, List, [], ◌∷◌, ◌++◌, length, take, Option, Some, None, option_map, codes}
use Rattle.std.specs.Option.{option_to_list}
use Rattle.meaning.specs.Edits.{Define}
use Rattle.meaning.specs.Script.{Command, Change, Unknown, are_only, words, lines, line_command, commands_from, define_from}

-- the command that a line of this number ends, behind a define that has no `end` yet (the number of its line, and its text so far) or behind none
abbrev pub command_ended : Option (ℕ × List ℕ) → ℕ → List ℕ → Option Command
command_ended None n line = cond (are_only (codes "define") (words line)) None (line_command n line)
command_ended (Some begun) n line = cond (are_only (codes "end") (words line)) (Some (Change (Define begun.1))) None

-- the define that has no `end` yet behind that line
abbrev pub define_left : Option (ℕ × List ℕ) → ℕ → List ℕ → Option (ℕ × List ℕ)
define_left None n line = cond (are_only (codes "define") (words line)) (Some (n, [])) None
define_left (Some begun) n line = cond (are_only (codes "end") (words line)) None (Some (begun.0, begun.1 ++ line ++ 10 ∷ []))

-- the commands of the lines from here on, of which the first has this number
abbrev pub commands_behind : Option (ℕ × List ℕ) → ℕ → List (List ℕ) → List Command
commands_behind None n rest = commands_from n rest
commands_behind (Some begun) n rest = define_from begun.0 begun.1 n rest

-- how many lines have come, and the define that has no `end` yet
pub record PlainOpen : Type 0 where
  pub passed : ℕ
  pub define : Option (ℕ × List ℕ)

abbrev pub nothing_come : PlainOpen
nothing_come = record { passed = 0; define = None }

-- the command that the next line ends
abbrev pub command_by : PlainOpen → List ℕ → Option Command
command_by script line = command_ended script.define (script.passed + 1) line

-- the script with one more line
abbrev pub with_line : PlainOpen → List ℕ → PlainOpen
with_line script line = record { passed = script.passed + 1; define = define_left script.define (script.passed + 1) line }

-- the commands of all lines that are still to come
abbrev pub commands_left : PlainOpen → List (List ℕ) → List Command
commands_left script rest = commands_behind script.define (script.passed + 1) rest

-- the command that is left where no line comes any more
abbrev pub command_left : PlainOpen → Option Command
command_left script = option_map (λ begun. Unknown begun.0) script.define

-- the commands that lines end, one after another, and the script with all of them
abbrev pub commands_by : PlainOpen → List (List ℕ) → List Command
commands_by script [] = []
commands_by script (line ∷ rest) = option_to_list (command_by script line) ++ commands_by (with_line script line) rest

abbrev pub with_lines : PlainOpen → List (List ℕ) → PlainOpen
with_lines script [] = script
with_lines script (line ∷ rest) = with_lines (with_line script line) rest

-- the lines of a text that have an end
abbrev pub ended_lines : List ℕ → List (List ℕ)
ended_lines text = take (length (lines text) - 1) (lines text)

-- the commands that are whole in a beginning of a script: a line without its end is none yet, and neither is a define without its `end`
abbrev pub whole_commands : List ℕ → List Command
whole_commands text = commands_by nothing_come (ended_lines text)

-- these bytes are these lines with their ends, and the script is what comes of them
pub record IsCome (script : PlainOpen) (bytes : List ℕ) (come : List (List ℕ)) : Type 0 where
  pub parts : (rest : List ℕ) → lines (bytes ++ rest) ≡ come ++ lines rest
  pub stands : script ≡ with_lines nothing_come come
