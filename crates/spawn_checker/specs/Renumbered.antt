-- The revision numbers of a program that takes the place of another.
use Rattle.std.specs.Prelude.{◌≡◌, ◌≤◌, ◌⊎◌, ℕ, suc, nat_lt, true, false, List, [], ◌∷◌, ◌++◌, Some, string_bytes}
use Rattle.meaning.specs.Tree.{Name, Proc, reducer, procedure, Tree}
use Rattle.meaning.specs.TreeView.{Lined}
use Rattle.meaning.specs.Records.{Revised}
use Rattle.meaning.specs.Statements.{procedure_of}
use Rattle.meaning.specs.Edits.{is_same, revision_of, revised, most}
use Rattle.linked_program.specs.TableNames.{Columned, has_name}
use Rattle.linked_program.specs.Declarations.{reported, violations}
use Rattle.linked_program.specs.Violations.{first_of}
use Rattle.spawn_checker.specs.declared.violation.CheckError.{CheckError}
use Rattle.spawn_checker.specs.declared.violation.CheckError.TheVariants.{NoMemory, Check, Exhausted}

-- the procedure is as it was, lines aside, and this is the number that it had
abbrev pub KeepsNumber : Revised → Proc → ℕ → Type 0
KeepsNumber old p n = (is_same (procedure_of old.tree p.called) p ≡ true) × (n ≡ revision_of old.revisions p.called)

-- the procedure is new or changed, and this number was never used: no number from `next` on was
abbrev pub HasNewNumber : Revised → ℕ → Proc → ℕ → Type 0
HasNewNumber old next p n = (is_same (procedure_of old.tree p.called) p ≡ false) × (next ≤ n)

-- the procedures' names in their order, each with the number that it keeps or with a new one, which lies below all later new ones
abbrev pub AreKeptOrNew : Revised → ℕ → List Proc → List (Name × ℕ) → Type 0
AreKeptOrNew old next [] [] = Unit {0}
AreKeptOrNew old next (p ∷ ps) (e ∷ es) =
    (e.0 ≡ p.called) × ((KeepsNumber old p e.1 × AreKeptOrNew old next ps es) ⊎ (HasNewNumber old next p e.1 × AreKeptOrNew old (suc e.1) ps es))
AreKeptOrNew old next _ _ = ⊥

-- these numbers before those
abbrev pub behind : List (Name × ℕ) → List (Name × ℕ) × ℕ → List (Name × ℕ) × ℕ
behind first numbers = (first ++ numbers.0, numbers.1)

-- no procedure has one of these names, or that of a procedure before it
abbrev pub AreNew : List Name → Tree → Type 0
AreNew names [] = Unit {0}
AreNew names (reducer r ∷ rest) = AreNew names rest
AreNew names (procedure p ∷ rest) = (has_name names p.called ≡ false) × AreNew (names ++ p.called ∷ []) rest

-- a program in the place of another is refused by its first violation, for want of numbers where none is violated, or for want of memory
abbrev pub IsRefusedAnew : Revised → List Columned → Tree → List Lined → CheckError → Type 0
IsRefusedAnew old tables program lines NoMemory = Unit {0}
IsRefusedAnew old tables program lines (Check rule name line) =
    reported program (first_of (violations tables program lines)) ≡ Some (rule, string_bytes name, line)
IsRefusedAnew old tables program lines Exhausted = (violations tables program lines ≡ []) × (nat_lt most (revised old program old.counter).1 ≡ true)
