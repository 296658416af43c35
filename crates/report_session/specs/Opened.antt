-- What a session over given tables is to its program's text, and why it isn't opened.
use Rattle.std.specs.Prelude.{◌≡◌, ◌⊎◌, ℕ, List, []}
use Rattle.meaning.specs.Tree.{Tree}
use Rattle.meaning.specs.TreeView.{tree, lines, Lined}
use Rattle.source_tree.specs.Source.{Source}
use Rattle.source_tree.specs.Lowering.{lowered_tree, lowered, lines_of}
use Rattle.procedure_parser.specs.Correct.{IsText, IsSource}
use Rattle.meaning.specs.Tables.{Tables}
use Rattle.meaning.specs.Edits.{revised}
use Rattle.linked_program.specs.TableNames.{columned_of}
use Rattle.linked_program.specs.Declarations.{violations}
use Rattle.linked_program.specs.Checked.{PlainChecked, revised_of, nothing}
use Rattle.prepared_program.specs.Preparing.{IsNoProgram}
use Rattle.spawn_checker.specs.Refused as checker
use Rattle.spawn_checker.specs.declared.violation.CheckError.TheVariants as check
use Rattle.report_session.specs.declared.opening.OpenError.{OpenError}
use Rattle.report_session.specs.declared.opening.OpenError.TheVariants.{NoMemory, Text, Check, NoKit}

-- the program is that of the text, whatever source tree the text has, it was checked against these tables and breaks no rule,
-- and its procedures have their first revision numbers
pub record IsProgramOver (text : List ℕ) (tables : Tables) (program : PlainChecked) : Type 0 where
  pub is_text : IsText text (tree program.program) (lines program.program)
  pub is_only : (s : Source) → IsSource s text → (lowered_tree (tree program.program) ≡ lowered s) × (lines program.program ≡ lines_of s)
  pub is_for : program.tables ≡ columned_of tables
  pub is_clean : violations (columned_of tables) (tree program.program) (lines program.program) ≡ []
  pub is_first : ((revised_of program).revisions, program.counter) ≡ revised nothing (tree program.program) 0

-- the text isn't a program, or breaks a rule over these tables, or there were to be no kits
abbrev pub IsUnopened : List ℕ → Tables → ℕ → OpenError → Type 0
IsUnopened text tables kits NoMemory = Unit {0}
IsUnopened text tables kits (Text line) = IsNoProgram text line
IsUnopened text tables kits (Check rule name line) =
    (t : Tree) × (l : List Lined) × IsText text t l × checker.IsRefused (columned_of tables) t l (check.Check rule name line)
IsUnopened text tables kits NoKit = kits ≡ 0

-- want of memory, or there were to be no kits
abbrev pub IsNoSession : ℕ → OpenError → Type 0
IsNoSession kits e = (e ≡ NoMemory) ⊎ ((e ≡ NoKit) × (kits ≡ 0))
