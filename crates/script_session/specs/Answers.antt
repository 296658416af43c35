-- The text of the answers to a script.
use Rattle.std.specs.Prelude.{◌≡◌, ◌⊎◌, ℕ, List, [], ◌∷◌, ◌++◌}
use Rattle.meaning.specs.Tables.{Tables}
use Rattle.meaning.specs.Statements.{reducers}
use Rattle.meaning.specs.Elision.{from_scratch}
use Rattle.meaning.specs.Edits.{Standing, Edit, after_edit}
use Rattle.meaning.specs.Script.{Command, commands}
use Rattle.meaning.specs.Text as text
use Rattle.meaning.specs.Text.{run_text}
use Rattle.linked_program.specs.Checked.{PlainChecked}
use Rattle.input_tables.specs.Befores.{no_row}
use Rattle.input_tables.specs.Edited.{Edited}
use Rattle.checked_defines.specs.Readers.{reads_text, checks_rules}
use Rattle.checked_defines.specs.Standings.{standing}

-- the answer to a command, after so many runs
abbrev pub answer_text : Standing → ℕ → Command → List ℕ
answer_text = text.answer_text reads_text checks_rules

-- what a command leaves
abbrev pub standing_after : Standing → Command → Standing
standing_after = text.standing_after reads_text checks_rules

-- what commands leave, one after another
abbrev pub left_by_commands : Standing → List Command → Standing
left_by_commands s [] = s
left_by_commands s (c ∷ cs) = left_by_commands (standing_after s c) cs

-- a command has been answered or not: a standing is what it leaves, or the one before it
abbrev pub MayBeLeft : Standing → Standing → Command → Type 0
MayBeLeft s t c = (t ≡ s) ⊎ (t ≡ standing_after s c)

-- some first ones of these commands leave it
abbrev pub IsLeftByFirst : Standing → Standing → List Command → Type 0
IsLeftByFirst s t cs = (first : List Command) × (rest : List Command) × (first ++ rest ≡ cs) × (t ≡ left_by_commands s first)

-- what a script leaves
abbrev pub left_by_script : Standing → List ℕ → Standing
left_by_script s script = left_by_commands s (commands script)

-- what an edit leaves: a refused one changes nothing
abbrev pub left_by_edit : Standing → Edit → Standing
left_by_edit = after_edit reads_text checks_rules

-- the answer to a run of that number
abbrev pub run_answer : Standing → ℕ → List ℕ
run_answer s n = run_text n (reducers s.program.tree) (from_scratch s.program.tree s.tables)

-- the answers to commands, after so many runs
abbrev pub answers_from : Standing → ℕ → List Command → List ℕ
answers_from = text.answers_from reads_text checks_rules

-- the answers to a script
abbrev pub answers_text : Standing → List ℕ → List ℕ
answers_text = text.answers_text reads_text checks_rules

-- tables that nothing was edited of
abbrev pub unedited : Tables → Edited
unedited tables = record { tables = tables; edits = 0; was = no_row }

-- the answers to the first script of a checked program and its tables
abbrev pub first_answers : PlainChecked → Tables → List ℕ → List ℕ
first_answers checked tables = answers_text (standing checked (unedited tables))
