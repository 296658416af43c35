-- A checked program as a plain value.
use Rattle.std.specs.Prelude.{◌≡◌, ℕ, ◌<◌, cond, List, [], ◌∷◌, Option, Some, None, map, All, string_bytes}
use Rattle.std.specs.Global.{Global}
use Rattle.std.specs.Str.{bytes_eq}
use Rattle.std.specs.declared.string.String.{String}
use Rattle.monoid_laws.specs.declared.Kind.{Kind}
use Rattle.meaning.specs.Tree.{Name}
use Rattle.meaning.specs.declared.tree.Program.{Program}
use Rattle.meaning.specs.TreeView.{tree}
use Rattle.meaning.specs.Records.{Revised}
use Rattle.linked_program.specs.TableNames.{Columned}
use Rattle.linked_program.specs.Declarations.{IsClean}
use Rattle.linked_program.specs.Procedures.{procedures}
use Rattle.linked_program.specs.Initials.{PlainInitial, initials_of}
use Rattle.linked_program.specs.Linked.{kinds_of, main_number}
use Rattle.linked_program.specs.declared.code.Code.{Code}
use Rattle.linked_program.specs.CodeView.{AreCodesOf}

-- the program, the names of its tables, its procedures' codes in their order, its reducers' kinds in theirs, with what they begin with,
-- the number of `main`,
-- its procedures' names in their order, each with its revision number, and the least number that was never used
pub record PlainChecked : Type 0 where
  pub program : Program
  pub tables : List Columned
  pub codes : List Code
  pub kinds : List Kind
  pub initials : List PlainInitial
  pub main : ℕ
  pub revisions : List (Name × ℕ)
  pub counter : ℕ

-- ---- numbers of names

abbrev pub numbered_name : String Global × ℕ → Name × ℕ
numbered_name e = (string_bytes e.0, e.1)

-- names, each with its number, in their order
abbrev pub numbers_in : List (String Global × ℕ) → List (Name × ℕ)
numbers_in es = map numbered_name es

abbrev pub names_in : List (Name × ℕ) → List Name
names_in numbers = map (λ e. e.0) numbers

-- the number of a name
abbrev pub number_in : List (Name × ℕ) → Name → Option ℕ
number_in [] f = None
number_in (e ∷ rest) f = cond (bytes_eq f e.0) (Some e.1) (number_in rest f)

-- ---- checked programs

-- the program with its revision numbers
abbrev pub revised_of : PlainChecked → Revised
revised_of c = record { tree = tree c.program; revisions = c.revisions; counter = c.counter }

-- no rule is broken, the codes, kinds, initial values and number of `main` are those of the tree, the procedures in their order have revision numbers,
-- and all of them lie below the counter
pub record IsChecked (c : PlainChecked) : Type 0 where
  pub clean : IsClean c.tables c.program
  pub linked : AreCodesOf c.tables (tree c.program) c.codes (procedures (tree c.program))
  pub kinds_are : c.kinds ≡ kinds_of (tree c.program)
  pub initials_are : c.initials ≡ initials_of (tree c.program)
  pub main_is : c.main ≡ main_number (tree c.program)
  pub each : names_in c.revisions ≡ map (λ p. p.called) (procedures (tree c.program))
  pub below : All (λ e. e.1 < c.counter) c.revisions

-- a program that nothing stands for yet
abbrev pub nothing : Revised
nothing = record { tree = []; revisions = []; counter = 0 }
