-- Revision numbers of a program in the place of another.
use Rattle.std.proofs.Common.{◌≡◌, ℕ, suc, ◌<◌, ◌≤◌, Bool, true, false, cond, List, [], ◌∷◌, Option, Some, None, map, All, inl, inr, refl, ap, sym, subst, ◌∙◌, arith, nat_lt, lt-ltb}
use Rattle.std.proofs.lemmas.List.Elements.{All-nil, All-cons, All-head, All-tail}
use Rattle.std.specs.Str.{bytes_eq}
use Rattle.meaning.specs.Tree.{Name, Proc, reducer, procedure, Tree}
use Rattle.meaning.specs.Records.{Revised}
use Rattle.meaning.specs.Statements.{procedure_of}
use Rattle.meaning.specs.Edits.{is_same, revision_of, revised, most}
use Rattle.linked_program.specs.Procedures.{procedures}
use Rattle.linked_program.specs.Checked.{names_in, number_in}
use Rattle.linked_program.proofs.Named.{revision_found}
use Rattle.single_rules.proofs.NumberThere.{number_there}
use Rattle.single_rules.specs.Kept.{kept_revision}
use Rattle.spawn_checker.specs.Renumbered.{AreKeptOrNew, behind}

abbrev pub Numbered : Type 0
Numbered = List (Name × ℕ) × ℕ

-- ---- the numbers of the definitions

abbrev with_number : Name → ℕ → Numbered → Numbered
with_number f n m = ((f, n) ∷ m.0, m.1)

numbers_kept : (old : Revised) (p : Proc) (rest : Tree) (next k : ℕ) (b : Bool) → cond b (Some (revision_of old.revisions p.called)) None ≡ Some k
    → cond b (with_number p.called (revision_of old.revisions p.called) (revised old rest next)) (with_number p.called next (revised old rest (suc next))) ≡ with_number p.called k (revised old rest next)
numbers_kept old p rest next k true e = let same : revision_of old.revisions p.called ≡ k = (cc) in ap (λ (n : ℕ). with_number p.called n (revised old rest next)) same
numbers_kept old p rest next k false e = absurd cc

numbers_new : (old : Revised) (p : Proc) (rest : Tree) (next : ℕ) (b : Bool) → cond b (Some (revision_of old.revisions p.called)) None ≡ None
    → cond b (with_number p.called (revision_of old.revisions p.called) (revised old rest next)) (with_number p.called next (revised old rest (suc next))) ≡ with_number p.called next (revised old rest (suc next))
numbers_new old p rest next true e = absurd cc
numbers_new old p rest next false e = refl

-- a procedure that keeps its number, and one that gets a new one
pub revised_kept : (old : Revised) (p : Proc) (rest : Tree) (next k : ℕ) → kept_revision old p ≡ Some k → revised old (procedure p ∷ rest) next ≡ with_number p.called k (revised old rest next)
revised_kept old p rest next k e = numbers_kept old p rest next k (is_same (procedure_of old.tree p.called) p) e

pub revised_new : (old : Revised) (p : Proc) (rest : Tree) (next : ℕ) → kept_revision old p ≡ None → revised old (procedure p ∷ rest) next ≡ with_number p.called next (revised old rest (suc next))
revised_new old p rest next e = numbers_new old p rest next (is_same (procedure_of old.tree p.called) p) e

pub revised_names : (old : Revised) (t : Tree) (next : ℕ) → names_in (revised old t next).0 ≡ map (λ p. p.called) (procedures t)
revised_names old [] next = refl
revised_names old (reducer r ∷ rest) next = revised_names old rest next
revised_names old (procedure p ∷ rest) next =
    elim (is_same (procedure_of old.tree p.called) p) as (λ b. names_in (cond b (with_number p.called (revision_of old.revisions p.called) (revised old rest next)) (with_number p.called next (revised old rest (suc next)))).0 ≡ map (λ p. p.called) (procedures (procedure p ∷ rest))) [
      | true ↦ ap (λ (xs : List Name). p.called ∷ xs) (revised_names old rest next)
      | false ↦ ap (λ (xs : List Name). p.called ∷ xs) (revised_names old rest (suc next))
    ]

one_kept_or_new : (old : Revised) (p : Proc) (rest : Tree) (next : ℕ) → ((n : ℕ) → AreKeptOrNew old n (procedures rest) (revised old rest n).0) → (b : Bool) → is_same (procedure_of old.tree p.called) p ≡ b
    → AreKeptOrNew old next (p ∷ procedures rest) (cond b (with_number p.called (revision_of old.revisions p.called) (revised old rest next)) (with_number p.called next (revised old rest (suc next)))).0
one_kept_or_new old p rest next later true same = (refl, inl ((same, refl), later next))
one_kept_or_new old p rest next later false same = (refl, inr ((same, omega arith), later (suc next)))

pub kept_or_new : (old : Revised) (t : Tree) (next : ℕ) → AreKeptOrNew old next (procedures t) (revised old t next).0
kept_or_new old [] next = tt
kept_or_new old (reducer r ∷ rest) next = kept_or_new old rest next
kept_or_new old (procedure p ∷ rest) next = one_kept_or_new old p rest next (kept_or_new old rest) (is_same (procedure_of old.tree p.called) p) refl

-- ---- below the counter

counter_grows : (old : Revised) (t : Tree) (next : ℕ) → next ≤ (revised old t next).1
counter_grows old [] next = omega arith
counter_grows old (reducer r ∷ rest) next = counter_grows old rest next
counter_grows old (procedure p ∷ rest) next =
    elim (is_same (procedure_of old.tree p.called) p) as (λ b. next ≤ (cond b (with_number p.called (revision_of old.revisions p.called) (revised old rest next)) (with_number p.called next (revised old rest (suc next)))).1) [
      | true ↦ counter_grows old rest next
      | false ↦ let more = counter_grows old rest (suc next) in omega (arith, more)
    ]

number_below : (ns : List (Name × ℕ)) (m : ℕ) (f : Name) (n : ℕ) → All (λ e. e.1 < m) ns → number_in ns f ≡ Some n → n < m
number_below [] m f n h e = absurd cc
number_below ((g, k) ∷ ns) m f n h e =
    elim (bytes_eq f g) as (λ b. cond b (Some k) (number_in ns f) ≡ Some n → n < m) [
      | true ↦ λ i. let same : k ≡ n = (cc) in let here = All-head (λ (e : Name × ℕ). e.1 < m) (g, k) ns h in omega (arith, here, same)
      | false ↦ λ i. number_below ns m f n (All-tail (λ (e : Name × ℕ). e.1 < m) (g, k) ns h) i
    ] e

same_there : (o : Option Proc) (p : Proc) → is_same o p ≡ true → (q : Proc) × (o ≡ Some q)
same_there None p e = absurd cc
same_there (Some q) p e = (q, refl)

abbrev AreBelow : Numbered → Type 0
AreBelow m = All (λ (e : Name × ℕ). e.1 < m.1) m.0

module _ (old : Revised) (each : names_in old.revisions ≡ map (λ p. p.called) (procedures old.tree)) (below : All (λ (e : Name × ℕ). e.1 < old.counter) old.revisions) where
  kept_below : (p : Proc) → is_same (procedure_of old.tree p.called) p ≡ true → revision_of old.revisions p.called < old.counter
  kept_below p same =
      let q = same_there (procedure_of old.tree p.called) p same in
      let n = number_there old.tree old.revisions p.called q.0 each q.1 in
      let here = number_below old.revisions old.counter p.called n.0 below n.1 in
      let k = revision_found old.revisions p.called n.0 n.1 in
      omega (arith, here, k)

  one_below : (p : Proc) (rest : Tree) (next : ℕ) → old.counter ≤ next → ((n : ℕ) → old.counter ≤ n → AreBelow (revised old rest n)) → (b : Bool) → is_same (procedure_of old.tree p.called) p ≡ b
      → AreBelow (cond b (with_number p.called (revision_of old.revisions p.called) (revised old rest next)) (with_number p.called next (revised old rest (suc next))))
  one_below p rest next low later true same =
      let here = kept_below p same in
      let more = counter_grows old rest next in
      All-cons (λ (e : Name × ℕ). e.1 < (revised old rest next).1) (p.called, revision_of old.revisions p.called) (revised old rest next).0 (omega (arith, here, more, low)) (later next low)
  one_below p rest next low later false same =
      let more = counter_grows old rest (suc next) in
      All-cons (λ (e : Name × ℕ). e.1 < (revised old rest (suc next)).1) (p.called, next) (revised old rest (suc next)).0 (omega (arith, more)) (later (suc next) (omega (arith, low)))

  numbers_below : (t : Tree) (next : ℕ) → old.counter ≤ next → AreBelow (revised old t next)
  numbers_below [] next low = All-nil (λ (e : Name × ℕ). e.1 < next)
  numbers_below (reducer r ∷ rest) next low = numbers_below rest next low
  numbers_below (procedure p ∷ rest) next low = one_below p rest next low (numbers_below rest) (is_same (procedure_of old.tree p.called) p) refl

  pub revised_below : (t : Tree) (ns : List (Name × ℕ)) (counter : ℕ) → (ns, counter) ≡ revised old t old.counter → All (λ (e : Name × ℕ). e.1 < counter) ns
  revised_below t ns counter e = subst AreBelow (sym e) (numbers_below t old.counter (omega arith))

-- a new procedure where the counter stands at its greatest number
pub exhausted_at : (old : Revised) (p : Proc) (rest : Tree) (first : List (Name × ℕ)) (n all : ℕ) → all ≡ (behind first (revised old (procedure p ∷ rest) n)).1 → kept_revision old p ≡ None → n ≡ most → most < all
exhausted_at old p rest first n all is new full =
    let more = counter_grows old rest (suc n) in
    let here : all ≡ (revised old rest (suc n)).1 = is ∙ ap (λ (m : Numbered). m.1) (revised_new old p rest n new) in
    omega (arith, more, here, full)

-- ---- refusals

pub too_many : (n : ℕ) → most < n → nat_lt most n ≡ true
too_many n h = lt-ltb most n h
