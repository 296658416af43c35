-- The numbers of a tree fit where those of its parts do.
use Rattle.std.proofs.Common.{ℕ, zero, suc, ◌≤◌, true, false, cond, List, [], ◌∷◌, Some, map, drop, length, slice_get, arith}
use Rattle.std.specs.Str.{bytes_eq}
use Rattle.meaning.specs.declared.tree.Block.{Block}
use Rattle.meaning.specs.declared.tree.Declaration.{Declaration}
use Rattle.meaning.specs.declared.tree.Declaration.TheVariants as d
use Rattle.meaning.specs.Tree.{Name, Body}
use Rattle.meaning.specs.TreeView.{statements_of, block, proc, decl}
use Rattle.monoid_laws.specs.Kinds.{Fits}
use Rattle.meaning.specs.Statements.{reducers, procedure_of, found, proc_of}
use Rattle.std.specs.List.{AllByRecursion}
use Rattle.meaning.specs.Fitting.{FitsBody}
use Rattle.linked_program.specs.Fitting.{BlockFits, DeclarationFits}

pub none_left : {A : Type 0} (P : A → Type 0) (xs : List A) (i : ℕ) → length xs ≤ i → AllByRecursion P (drop i xs)
none_left P [] zero h = tt
none_left P [] (suc i) h = tt
none_left P (x ∷ xs) zero h = absurd (omega (arith, h))
none_left P (x ∷ xs) (suc i) h = none_left P xs i (omega (arith, h))

found_fits : (bs : List Block) (n : ℕ) (inner : ℕ → Body) → ((m : ℕ) → FitsBody (inner m)) → AllByRecursion BlockFits bs → FitsBody (statements_of inner (slice_get bs n))
found_fits [] n inner f h = tt
found_fits (b ∷ bs) zero inner f h = h.0 inner f
found_fits (b ∷ bs) (suc n) inner f h = found_fits bs n inner f h.1

pub block_fits : (bs : List Block) → AllByRecursion BlockFits bs → (levels n : ℕ) → FitsBody (block bs levels n)
block_fits bs h zero n = tt
block_fits bs h (suc levels) n = found_fits bs n (block bs levels) (λ m. block_fits bs h levels m) h

pub initials_fit : (ds : List Declaration) → AllByRecursion DeclarationFits ds → AllByRecursion (λ r. AllByRecursion Fits r.initial) (reducers (map decl ds))
initials_fit [] h = tt
initials_fit (d.Reducer r ∷ ds) h = (h.0, initials_fit ds h.1)
initials_fit (d.Procedure p ∷ ds) h = initials_fit ds h.1

pub names_fit : (ds : List Declaration) (f : Name) → AllByRecursion DeclarationFits ds → FitsBody (proc_of (map decl ds) f).body
names_fit [] f h = tt
names_fit (d.Reducer r ∷ ds) f h = names_fit ds f h.1
names_fit (d.Procedure p ∷ ds) f h =
    elim (bytes_eq (proc p).called f) as (λ b. FitsBody (found (cond b (Some (proc p)) (procedure_of (map decl ds) f))).body) [
      | true ↦ h.0
      | false ↦ names_fit ds f h.1
    ]
