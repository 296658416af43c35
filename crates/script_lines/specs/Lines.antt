-- The lines of a script by places: a line begins behind the end of another, or at 0.
use Rattle.std.specs.Prelude.{ℕ, suc, ◌+◌, ◌-◌, ◌≡◌, ◌≤◌, List, [], Option, Some, None, length, take, drop}
use Rattle.std.specs.List.{position_or_len}
use Rattle.meaning.specs.Script.{is_line_end, lines}
use Rattle.script_lines.specs.declared.lines.Line.{Line}

-- where the line ends that begins here
abbrev pub end_from : List ℕ → ℕ → ℕ
end_from script begin = begin + position_or_len is_line_end (drop begin script)

-- a line ends where it has to, and its number is at most one more than the place where it begins
pub record IsLine (script : List ℕ) (line : Line) : Type 0 where
  pub ends : line.end ≡ end_from script line.begin
  pub within : line.end ≤ length script
  pub counted : line.number ≤ line.begin + 1

abbrev pub text_of : List ℕ → Line → List ℕ
text_of script line = take (line.end - line.begin) (drop line.begin script)

-- the lines of the script from this one on
abbrev pub lines_at : List ℕ → Option Line → List (List ℕ)
lines_at script None = []
lines_at script (Some line) = lines (drop line.begin script)

-- how many places are left from this line on
abbrev pub left_from : List ℕ → Option Line → ℕ
left_from script None = 0
left_from script (Some line) = suc (length script) - line.begin
