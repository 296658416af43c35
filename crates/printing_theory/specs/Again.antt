-- What is printed is read again.
use Rattle.std.specs.Prelude.{◌≡◌, ℕ, suc, ◌≤◌, List, [], ◌∷◌, ◌⊎◌, Result, Ok, Err}
use Rattle.meaning.specs.Tree.{Tree}
use Rattle.meaning.specs.Tree as plain
use Rattle.meaning.specs.TreeView.{tree, Lined}
use Rattle.meaning.specs.declared.tree.Program.{Program}
use Rattle.source_tree.specs.Source.{Decl, Source}
use Rattle.source_tree.specs.Lowering.{Lowered, reducer, procedure, lowered_decl, lower_decl, lowered_tree}
use Rattle.token_readers.specs.declared.fault.TextError.{TextError}
use Rattle.token_readers.specs.declared.fault.TextError.TheVariants.{NoMemory, Text}
use Rattle.procedure_parser.specs.Correct.{IsText, IsSource}
use Rattle.program_printer.specs.Printing.{printed}

-- the text is one of this tree, on some lines
abbrev pub HasTree : List ℕ → Tree → Type 0
HasTree text t = (l : List Lined) × IsText text t l

-- the tree of some text
abbrev pub IsOfText : Tree → Type 0
IsOfText t = (text : List ℕ) × HasTree text t

abbrev pub IsIn : Decl → Source → Type 0
IsIn d [] = ⊥
IsIn d (e ∷ s) = (e ≡ d) ⊎ IsIn d s

-- a declaration of some text
abbrev pub IsOfSome : plain.Decl → Type 0
IsOfSome d = (text : List ℕ) × (s : Source) × (e : Decl) × IsSource s text × IsIn e s × (lowered_decl d ≡ lower_decl e)

abbrev pub AllOfSome : Tree → Type 0
AllOfSome [] = Unit {0}
AllOfSome (d ∷ t) = IsOfSome d × AllOfSome t

abbrev pub reducer_count : List Lowered → ℕ
reducer_count [] = 0
reducer_count (reducer x k vs ∷ ds) = suc (reducer_count ds)
reducer_count (procedure p ∷ ds) = reducer_count ds

abbrev pub procedure_count : List Lowered → ℕ
procedure_count [] = 0
procedure_count (reducer x k vs ∷ ds) = procedure_count ds
procedure_count (procedure p ∷ ds) = suc (procedure_count ds)

-- each declaration is of some text, and no limit is passed: so are the programs that definitions have made of a text's
abbrev pub IsOfTexts : Tree → Type 0
IsOfTexts t = AllOfSome t × (reducer_count (lowered_tree t) ≤ 16) × (procedure_count (lowered_tree t) ≤ 256)

-- its printed text has the same tree
abbrev pub PrintsAgain : Tree → Type 0
PrintsAgain t = HasTree (printed t) t

-- a program with this tree, unless memory runs out
abbrev pub IsAgain : Tree → Result Program TextError → Type 0
IsAgain t (Ok p) = tree p ≡ t
IsAgain t (Err NoMemory) = Unit {0}
IsAgain t (Err (Text l)) = ⊥

-- the refusal of a text that is too long, unless memory runs out
abbrev pub IsTooLong : Result Program TextError → Type 0
IsTooLong (Ok p) = ⊥
IsTooLong (Err NoMemory) = Unit {0}
IsTooLong (Err (Text l)) = l ≡ 0
