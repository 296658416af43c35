-- What a checked program and its tables stand for, and what procedures that are put in leave as it was.
use Rattle.std.specs.Prelude.{◌≡◌, ℕ, true, List, [], ◌++◌, map, Result, Ok}
use Rattle.meaning.specs.Tree.{Name, Tree}
use Rattle.meaning.specs.declared.tree.Program.{Program}
use Rattle.meaning.specs.TreeView.{Lined, lines, tree}
use Rattle.meaning.specs.Edits.{Standing, EditRefusal, defined_as}
use Rattle.meaning.specs.Records.{is_current}
use Rattle.meaning.specs.Statements.{procedure_of}
use Rattle.meaning.specs.Tables.{is_there}
use Rattle.source_tree.specs.Source.{Source}
use Rattle.program_edits.specs.Putting.{put_all}
use Rattle.linked_program.specs.Procedures.{procedures}
use Rattle.linked_program.specs.Linked.{procedure_number}
use Rattle.linked_program.specs.Checked.{PlainChecked, revised_of}
use Rattle.input_tables.specs.Edited.{Edited, beside}
use Rattle.checked_defines.specs.Readers.{checks_rules}

-- the program with its revision numbers and its lines, beside its tables
abbrev pub standing : PlainChecked → Edited → Standing
standing checked now = beside (revised_of checked) (lines checked.program) now

-- the answer to a program that takes the place of another
abbrev pub answer_to : Standing → Program → Result Standing EditRefusal
answer_to s p = defined_as checks_rules s (Ok (tree p, lines p))

-- the program, with its lines, is another with some text's procedures put in
abbrev pub HasPut : Tree × List Lined → Tree × List Lined → Type 0
HasPut before after = (s : Source) × (after ≡ put_all [] s before)

-- the procedures' names, in the program's order
abbrev pub called_in : Tree → List Name
called_in t = map (λ p. p.called) (procedures t)

-- each procedure keeps its place: the names that are new stand last
abbrev pub KeepsPlaces : Tree → Tree → Type 0
KeepsPlaces old new = (more : List Name) × (called_in new ≡ called_in old ++ more)

-- each procedure that is there stays there, with the number that its name had
abbrev pub KeepsNumbers : Tree → Tree → Type 0
KeepsNumbers old new =
    (f : Name) → is_there (procedure_of old f) ≡ true
    → (is_there (procedure_of new f) ≡ true) × (procedure_number (procedures new) f ≡ procedure_number (procedures old) f)

-- a procedure whose revision number is current is there
abbrev pub CurrentAreThere : PlainChecked → Type 0
CurrentAreThere checked =
    (f : Name) (n : ℕ) → is_current checked.revisions (f, n) ≡ true → is_there (procedure_of (tree checked.program) f) ≡ true
