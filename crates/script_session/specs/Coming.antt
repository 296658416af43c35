-- The answers to a script as its lines come.
use Rattle.std.specs.Prelude.{◌≡◌, ◌⊎◌, ℕ, List, [], ◌++◌, Option, Some, None}
use Rattle.std.specs.Io.KnownBytes.{Appends, Consumes}
use Rattle.meaning.specs.Tables.{Tables}
use Rattle.meaning.specs.Edits.{Standing}
use Rattle.meaning.specs.Script.{Command}
use Rattle.meaning.specs.Text.{runs_after}
use Rattle.linked_program.specs.Checked.{PlainChecked}
use Rattle.checked_defines.specs.Standings.{standing}
use Rattle.script_reader.specs.Beginnings.{PlainOpen, IsCome, commands_by, nothing_come, whole_commands}
use Rattle.script_session.specs.Answers.{answer_text, answers_from, left_by_commands, standing_after, unedited}

-- the answer to a command after so many runs, if there is one; what it leaves, and how many runs there were then
abbrev pub answer_to : Standing → ℕ → Option Command → List ℕ
answer_to s runs None = []
answer_to s runs (Some command) = answer_text s runs command

abbrev pub standing_behind : Standing → Option Command → Standing
standing_behind s None = s
standing_behind s (Some command) = standing_after s command

-- it has been answered or not
abbrev pub MayBeBehind : Standing → Standing → Option Command → Type 0
MayBeBehind s t command = (t ≡ s) ⊎ (t ≡ standing_behind s command)

abbrev pub runs_behind : ℕ → Option Command → ℕ
runs_behind runs None = runs
runs_behind runs (Some command) = runs_after runs command

-- the answers to the commands that are whole in a beginning of a script
abbrev pub answers_so_far : Standing → List ℕ → List ℕ
answers_so_far s script = answers_from s 0 (whole_commands script)

abbrev pub first_so_far : PlainChecked → Tables → List ℕ → List ℕ
first_so_far checked tables = answers_so_far (standing checked (unedited tables))

-- lines of a script were read and answered: what they have left of the session, of the script, of the bytes that were unread, and what was written
pub record HasAnswered (s t : Standing) (runs : ℕ) (script : PlainOpen) (unread left old new : Option (List ℕ)) : Type 0 where
  pub bytes : List ℕ
  pub come : List (List ℕ)
  pub answers : List ℕ
  pub is_come : IsCome script bytes come
  pub read : Consumes unread left bytes
  pub written : Appends old new answers
  pub going_on : (more : List Command) → answers_from s 0 (commands_by nothing_come come ++ more) ≡ answers ++ answers_from t runs more
  pub leaving : (more : List Command) → left_by_commands s (commands_by nothing_come come ++ more) ≡ left_by_commands t more
