-- The headline: what `report_on` promises where it answers Ok, from the bytes of two files and of a script to the bytes that were written.
use Rattle.std.specs.Prelude.{◌≡◌, ℕ, ◌+◌, List, [], ◌∷◌, ◌++◌, Option, Some, IsUtf8}
use Rattle.std.specs.Io.KnownBytes.{Appends}
use Rattle.meaning.specs.TreeView.{lines}
use Rattle.meaning.specs.Tables.{Tables}
use Rattle.meaning.specs.Statements.{reducers}
use Rattle.meaning.specs.Elision.{from_scratch}
use Rattle.meaning.specs.Edits.{Standing, Edit, tried, after_edit}
use Rattle.meaning.specs.Script.{Command, Run, Change, Unknown, commands}
use Rattle.meaning.specs.Text.{run_text, edit_text, unknown_text, answers_from}
use Rattle.linked_program.specs.Checked.{PlainChecked, revised_of}
use Rattle.checked_defines.specs.Readers.{reads_text, checks_rules}
use Rattle.command_line.specs.declared.options.Options.{Options}
use Rattle.prepared_program.specs.Preparing.{IsPrepared}

-- where a script begins: at this program and at these tables, of which nothing was edited
abbrev pub beginning : PlainChecked → Tables → Standing
beginning checked tables = record { program = revised_of checked; lines = lines checked.program; tables = tables; edits = 0 }

-- the answers to commands, from a program and tables on and after so many runs; what they are say four of the fields below
abbrev pub answers : Standing → ℕ → List Command → List ℕ
answers = answers_from reads_text checks_rules

-- the report over the bytes of a program's file, of a tables' file and of a script was written behind what the writer had
pub record IsReported (program_text tables_text script : List ℕ) (old new : Option (List ℕ)) : Type 0 where
  -- the bytes of the tables' file are text
  pub is_text : IsUtf8 tables_text
  -- the program and the tables are those of the two texts, and the program breaks no rule
  pub checked : PlainChecked
  pub tables : Tables
  pub is_prepared : IsPrepared program_text tables_text checked tables
  -- the bytes that were written are the answers to the script's commands, from that program and those tables on
  pub is_written : Appends old new (answers (beginning checked tables) 0 (commands script))
  -- a run is answered by its number and by what the serial elision of the current program on the current tables answers, done from scratch
  pub of_run : (now : Standing) (runs : ℕ) (rest : List Command)
      → answers now runs (Run ∷ rest)
      ≡ run_text (runs + 1) (reducers now.program.tree) (from_scratch now.program.tree now.tables) ++ answers now (runs + 1) rest
  -- an edit is answered by what it comes to, and the commands behind it stand on what it leaves: a refused one leaves all as it was
  pub of_edit : (now : Standing) (runs : ℕ) (edit : Edit) (rest : List Command)
      → answers now runs (Change edit ∷ rest)
      ≡ edit_text (tried reads_text checks_rules now edit) ++ answers (after_edit reads_text checks_rules now edit) runs rest
  -- a line that is no command is refused by its number
  pub of_unknown : (now : Standing) (runs line : ℕ) (rest : List Command)
      → answers now runs (Unknown line ∷ rest) ≡ unknown_text line ++ answers now runs rest
  -- where no command is left there is no answer more
  pub of_none : (now : Standing) (runs : ℕ) → answers now runs [] ≡ []

-- so much was written over the files that the options name, where the bytes of both and of the script are known
abbrev pub IsReportedOver : (List ℕ → Option (List ℕ)) → Options → Option (List ℕ) → Option (List ℕ) → Option (List ℕ) → Type 0
IsReportedOver held options known old new =
    (program_text tables_text script : List ℕ) → held options.program.now ≡ Some program_text → held options.tables.now ≡ Some tables_text
    → known ≡ Some script → IsReported program_text tables_text script old new
