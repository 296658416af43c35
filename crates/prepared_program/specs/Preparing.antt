-- What a program and its tables are to two texts, and why the texts are refused: the program's first, then the tables', then the check.
use Rattle.std.specs.Prelude.{◌≡◌, ℕ, List, [], Ok, Err, string_bytes}
use Rattle.meaning.specs.Tree.{Tree}
use Rattle.meaning.specs.TreeView.{tree, lines, Lined}
use Rattle.source_tree.specs.Source.{Source}
use Rattle.source_tree.specs.Lowering.{lowered_tree, lowered, lines_of}
use Rattle.procedure_parser.specs.Correct.{IsText, IsSource, IsFaultLineIn, InGrammar}
use Rattle.meaning.specs.Tables.{Tables}
use Rattle.meaning.specs.Edits.{revised}
use Rattle.input_tables.specs.Document as document
use Rattle.linked_program.specs.TableNames.{columned_of}
use Rattle.linked_program.specs.Declarations.{violations}
use Rattle.linked_program.specs.Checked.{PlainChecked, revised_of, nothing}
use Rattle.spawn_checker.specs.Refused as checker
use Rattle.spawn_checker.specs.declared.violation.CheckError.TheVariants as check
use Rattle.prepared_program.specs.declared.prepare.PrepareError.{PrepareError}
use Rattle.prepared_program.specs.declared.prepare.PrepareError.TheVariants.{NoMemory, Text, NotToml, Shape, Check}

-- the program is that of the text, whatever source tree the text has, and breaks no rule; the tables are those of their text,
-- the program was checked against them, and its procedures have their first revision numbers
pub record IsPrepared (text tables_text : List ℕ) (program : PlainChecked) (tables : Tables) : Type 0 where
  pub is_text : IsText text (tree program.program) (lines program.program)
  pub is_only : (s : Source) → IsSource s text → (lowered_tree (tree program.program) ≡ lowered s) × (lines program.program ≡ lines_of s)
  pub is_read : document.reading tables_text ≡ Ok tables
  pub is_for : program.tables ≡ columned_of tables
  pub is_clean : violations (columned_of tables) (tree program.program) (lines program.program) ≡ []
  pub is_first : ((revised_of program).revisions, program.counter) ≡ revised nothing (tree program.program) 0

-- some program has the text
abbrev pub IsProgram : List ℕ → Type 0
IsProgram text = (t : Tree) × (l : List Lined) × IsText text t l

-- no program has the text, and that is its first fault
abbrev pub IsNoProgram : List ℕ → ℕ → Type 0
IsNoProgram text line = IsFaultLineIn InGrammar text line × ((s : Source) → IsSource s text → ⊥)

abbrev pub IsRefused : List ℕ → List ℕ → PrepareError → Type 0
IsRefused text tables_text NoMemory = Unit {0}
IsRefused text tables_text (Text line) = IsNoProgram text line
IsRefused text tables_text NotToml = IsProgram text × (document.reading tables_text ≡ Err document.NotToml)
IsRefused text tables_text (Shape t) = IsProgram text × (document.reading tables_text ≡ Err (document.Shape (string_bytes t)))
IsRefused text tables_text (Check rule name line) =
    (tables : Tables) × (document.reading tables_text ≡ Ok tables)
    × ((t : Tree) × (l : List Lined) × IsText text t l × checker.IsRefused (columned_of tables) t l (check.Check rule name line))
