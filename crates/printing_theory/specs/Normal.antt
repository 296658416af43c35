-- A text's normal form: its program, printed.
use Rattle.std.specs.Prelude.{◌≡◌, ℕ, ◌≤◌, List, length}
use Rattle.meaning.specs.Tree.{Tree}
use Rattle.meaning.specs.TreeView.{Lined}
use Rattle.source_tree.specs.Source.{Source}
use Rattle.token_scanner.specs.Scanning.{longest_text}
use Rattle.token_readers.specs.declared.fault.TextError.{TextError}
use Rattle.token_readers.specs.declared.fault.TextError.TheVariants.{NoMemory, Text}
use Rattle.procedure_parser.specs.Correct.{IsFaultLineIn, InGrammar, IsSource, IsText}
use Rattle.program_printer.specs.Printing.{printed}
use Rattle.printing_theory.specs.Again.{HasTree}

-- the first text is a program's, and the second is that program's printed form: it has the same tree where it isn't too long
pub record IsNormalForm (program text : List ℕ) : Type 0 where
  pub is_program : (t : Tree) × (l : List Lined) × IsText program t l
  pub is_printed : (t : Tree) (l : List Lined) → IsText program t l → text ≡ printed t
  pub is_same : (t : Tree) (l : List Lined) → IsText program t l → length text ≤ longest_text → HasTree text t

-- why a text has none: it is no program's, and that is its first fault; or for want of memory
abbrev pub HasNoForm : List ℕ → TextError → Type 0
HasNoForm program NoMemory = Unit {0}
HasNoForm program (Text line) = IsFaultLineIn InGrammar program line × ((s : Source) → IsSource s program → ⊥)
