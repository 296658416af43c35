-- Revision numbers put in one by one.
use Rattle.std.proofs.Common.{◌≡◌, ℕ, suc, ◌+◌, List, [], ◌∷◌, ◌++◌, Some, None, sym, ap, ◌∙◌, append_assoc, add-one}
use Rattle.meaning.specs.Tree.{Name, Proc, procedure, Tree}
use Rattle.meaning.specs.Records.{Revised}
use Rattle.meaning.specs.Edits.{revised}
use Rattle.single_rules.specs.Kept.{kept_revision}
use Rattle.spawn_checker.specs.Renumbered.{behind}
use Rattle.spawn_checker.proofs.NewNumbers.{Numbered, revised_kept, revised_new}

-- how far one has come: the numbers so far, and those of what is left, are all
abbrev pub Going : Revised → Numbered → List (Name × ℕ) → ℕ → Tree → Type 0
Going old all ns next t = all ≡ behind ns (revised old t next)

-- one procedure more
module _ (old : Revised) (all : Numbered) (ns ms : List (Name × ℕ)) (p : Proc) (rest : Tree) (next : ℕ) (going : Going old all ns next (procedure p ∷ rest)) where
  behind_put : (n : ℕ) (m : Numbered) → ms ≡ ns ++ (p.called, n) ∷ [] → behind ns ((p.called, n) ∷ m.0, m.1) ≡ behind ms m
  behind_put n m is = ap (λ (xs : List (Name × ℕ)). (xs, m.1)) (sym (append_assoc ns ((p.called, n) ∷ []) m.0)) ∙ ap (λ (xs : List (Name × ℕ)). behind xs m) (sym is)

  -- where a procedure keeps its number, and where it gets a new one
  pub kept_one : (n : ℕ) → kept_revision old p ≡ Some n → ms ≡ ns ++ (p.called, n) ∷ [] → Going old all ms next rest
  kept_one n e is = going ∙ ap (behind ns) (revised_kept old p rest next n e) ∙ behind_put n (revised old rest next) is

  pub new_one : (n : ℕ) → kept_revision old p ≡ None → ms ≡ ns ++ (p.called, next) ∷ [] → n ≡ next + 1 → Going old all ms n rest
  new_one n e is more =
      going ∙ ap (behind ns) (revised_new old p rest next e) ∙ behind_put next (revised old rest (suc next)) is ∙ ap (λ (k : ℕ). behind ms (revised old rest k)) (sym (more ∙ add-one next))
