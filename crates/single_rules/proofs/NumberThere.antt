-- A procedure that there is has a revision number.
use Rattle.std.proofs.Common.{◌≡◌, ℕ, true, false, cond, List, [], ◌∷◌, Option, Some, map, refl, ap, sym, ◌∙◌}
use Rattle.std.specs.Str.{bytes_eq}
use Rattle.meaning.specs.Tree.{Name, Proc, reducer, procedure, Tree}
use Rattle.meaning.specs.Records.{Revised}
use Rattle.meaning.specs.Statements.{procedure_of}
use Rattle.meaning.specs.Edits.{same_proc}
use Rattle.linked_program.specs.Procedures.{procedures}
use Rattle.linked_program.specs.Checked.{names_in, number_in}
use Rattle.linked_program.proofs.Named.{bytes_turned, revision_found}
use Rattle.single_rules.specs.Kept.{kept_revision}

-- a procedure that there is has a number
pub number_there : (t : Tree) (ns : List (Name × ℕ)) (f : Name) (q : Proc) → names_in ns ≡ map (λ p. p.called) (procedures t) → procedure_of t f ≡ Some q → (n : ℕ) × (number_in ns f ≡ Some n)
number_there [] ns f q e there = absurd cc
number_there (reducer r ∷ rest) ns f q e there = number_there rest ns f q e there
number_there (procedure p ∷ rest) [] f q e there = absurd cc
number_there (procedure p ∷ rest) ((g, k) ∷ ns) f q e there =
    let here : g ≡ p.called = (cc) in
    let more : names_in ns ≡ map (λ p. p.called) (procedures rest) = (cc) in
    let turned : bytes_eq f g ≡ bytes_eq p.called f = ap (bytes_eq f) here ∙ bytes_turned f p.called in
    rw turned (elim (bytes_eq p.called f) as (λ b. cond b (Some p) (procedure_of rest f) ≡ Some q → (n : ℕ) × (cond b (Some k) (number_in ns f) ≡ Some n)) [
      | true ↦ λ h. (k, refl)
      | false ↦ λ h. number_there rest ns f q more h
    ] there)

-- what the code finds
pub kept_is : (old : Revised) (p q : Proc) (o : Option ℕ) → names_in old.revisions ≡ map (λ p. p.called) (procedures old.tree) → Some q ≡ procedure_of old.tree p.called → true ≡ same_proc q p → o ≡ number_in old.revisions p.called → o ≡ kept_revision old p
kept_is old p q o each found same number =
    let n = number_there old.tree old.revisions p.called q each (sym found) in
    rw (← found, ← same) (number ∙ n.1 ∙ ap Some (revision_found old.revisions p.called n.0 n.1))
