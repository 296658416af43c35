-- A program whose procedures are defined anew is a later one, and its procedures have numbers.
use Rattle.std.proofs.Common.{ℕ, suc, ◌<◌, ◌≤◌, List, [], ◌∷◌, Option, Some, None, ◌≡◌, refl, sym, ap, ◌∙◌, subst, arith, true, false, Bool, cond, nat_eq, eqb-true}
use Rattle.std.specs.Str.{bytes_eq}
use Rattle.std.proofs.lemmas.Bool.Decides.{Decides-eqb}
use Rattle.meaning.specs.Tree.{Name, Deed, bind, enter, read, sync, update, choose, loop, give, Body, end, step, Proc, reducer, procedure, Tree}
use Rattle.meaning.specs.Tables.{is_there}
use Rattle.meaning.specs.Statements.{procedure_of, found}
use Rattle.meaning.specs.Records.{Revised, is_current}
use Rattle.meaning.specs.Commits.{revision_of}
use Rattle.meaning.specs.Edits as edits
use Rattle.meaning.specs.Edits.{is_same, same_proc, revised}
use Rattle.trail_theory.specs.ReadsAtEnd.{EntersOnlyDeed, EntersOnly}
use Rattle.trail_theory.specs.OpenLayers.{HasNumber, IsNumbered}
use Rattle.trail_theory.specs.Defines.{redefined, DefinesKeep}
use Rattle.trail_theory.proofs.SameTrees.{name_true, proc_true}

revision_same : (rs : List (Name × ℕ)) (f : Name) → edits.revision_of rs f ≡ revision_of rs f
revision_same [] f = refl
revision_same ((g, n) ∷ rest) f = ap (cond (bytes_eq g f) n) (revision_same rest f)

-- a procedure that is found by a name has it
found_name : (tree : Tree) (f : Name) (p : Proc) → procedure_of tree f ≡ Some p → p.called ≡ f
found_name [] f p e = absurd cc
found_name (reducer r ∷ rest) f p e = found_name rest f p e
found_name (procedure q ∷ rest) f p e = by_name (bytes_eq q.called f) refl e (found_name rest f p)
  where
    by_name : (b : Bool) → bytes_eq q.called f ≡ b → cond b (Some q) (procedure_of rest f) ≡ Some p → (procedure_of rest f ≡ Some p → p.called ≡ f) → p.called ≡ f
    by_name true t e later = let s : q ≡ p = cc in subst (λ r. r.called ≡ f) s (name_true q.called f t)
    by_name false t e later = later e

-- what the test finds the same is the old procedure of that name
old_same : (tree : Tree) (p : Proc) (o : Option Proc) → procedure_of tree p.called ≡ o → is_same o p ≡ true → o ≡ Some p
old_same tree p None e t = absurd cc
old_same tree p (Some q) e t = ap Some (proc_true q p (found_name tree p.called q e) t)

abbrev Numbers : Type 0
Numbers = List (Name × ℕ) × ℕ

at_most_cond : (b : Bool) (x y : Numbers) (n : ℕ) → n ≤ x.1 → n ≤ y.1 → n ≤ (cond b x y).1
at_most_cond true x y n h k = h
at_most_cond false x y n h k = k

below_cond : (b : Bool) (x y n : ℕ) → x < n → y < n → cond b x y < n
below_cond true x y n h k = h
below_cond false x y n h k = k

module _ (old : Revised) where
  abbrev kept : Proc → Tree → ℕ → Numbers
  kept p rest next = ((p.called, edits.revision_of old.revisions p.called) ∷ (revised old rest next).0, (revised old rest next).1)

  abbrev new : Proc → Tree → ℕ → Numbers
  new p rest next = ((p.called, next) ∷ (revised old rest (suc next)).0, (revised old rest (suc next)).1)

  grows : (tree : Tree) (next : ℕ) → next ≤ (revised old tree next).1
  grows [] next = omega arith
  grows (reducer r ∷ rest) next = grows rest next
  grows (procedure p ∷ rest) next =
      let k : suc next ≤ (revised old rest (suc next)).1 = grows rest (suc next) in
      at_most_cond (is_same (procedure_of old.tree p.called) p) (kept p rest next) (new p rest next) next (grows rest next) (omega (arith, k))

  module _ (numbers : IsNumbered old) where
    -- a number that was used before is current only where the procedure is as it was
    Unchanged : Tree → Name → ℕ → Type 0
    Unchanged tree f n = (is_current old.revisions (f, n) ≡ true) × (procedure_of old.tree f ≡ procedure_of tree f)

    kept_number : (p : Proc) (f : Name) (n : ℕ) → is_same (procedure_of old.tree p.called) p ≡ true → p.called ≡ f → edits.revision_of old.revisions p.called ≡ n → (is_current old.revisions (f, n) ≡ true) × (procedure_of old.tree f ≡ Some p)
    kept_number p f n same c r =
        let o : procedure_of old.tree p.called ≡ Some p = old_same old.tree p (procedure_of old.tree p.called) refl same in
        let here : HasNumber old p.called = numbers.named p.called (ap is_there o) in
        let number : revision_of old.revisions p.called ≡ n = sym (revision_same old.revisions p.called) ∙ r in
        let current : is_current old.revisions (p.called, n) ≡ true = subst (λ m. is_current old.revisions (p.called, m) ≡ true) number here in
        (subst (λ g. is_current old.revisions (g, n) ≡ true) c current, subst (λ g. procedure_of old.tree g ≡ Some p) c o)

    unchanged : (tree : Tree) (next : ℕ) → old.counter ≤ next → (f : Name) (n : ℕ) → n < old.counter → is_current (revised old tree next).0 (f, n) ≡ true → Unchanged tree f n
    unfolding Unchanged
    unchanged [] next l f n b e = absurd cc
    unchanged (reducer r ∷ rest) next l f n b e = unchanged rest next l f n b e
    unchanged (procedure p ∷ rest) next l f n b e =
        by_same (is_same (procedure_of old.tree p.called) p) refl e (λ e. unchanged rest next l f n b e) (λ e. unchanged rest (suc next) (omega (arith, l)) f n b e)
      where
        by_kept : is_same (procedure_of old.tree p.called) p ≡ true → (t : Bool) → bytes_eq p.called f ≡ t → cond t (nat_eq (edits.revision_of old.revisions p.called) n) (is_current (revised old rest next).0 (f, n)) ≡ true
            → (is_current (revised old rest next).0 (f, n) ≡ true → (is_current old.revisions (f, n) ≡ true) × (procedure_of old.tree f ≡ procedure_of rest f)) → (is_current old.revisions (f, n) ≡ true) × (procedure_of old.tree f ≡ cond t (Some p) (procedure_of rest f))
        by_kept same true t e later = kept_number p f n same (name_true p.called f t) (eqb-true (edits.revision_of old.revisions p.called) n e)
        by_kept same false t e later = later e

        by_new : (t : Bool) → bytes_eq p.called f ≡ t → cond t (nat_eq next n) (is_current (revised old rest (suc next)).0 (f, n)) ≡ true
            → (is_current (revised old rest (suc next)).0 (f, n) ≡ true → (is_current old.revisions (f, n) ≡ true) × (procedure_of old.tree f ≡ procedure_of rest f)) → (is_current old.revisions (f, n) ≡ true) × (procedure_of old.tree f ≡ cond t (Some p) (procedure_of rest f))
        by_new true t e later = let q : next ≡ n = eqb-true next n e in absurd (omega (arith, q, l, b))
        by_new false t e later = later e

        by_same : (s : Bool) → is_same (procedure_of old.tree p.called) p ≡ s → is_current (cond s (kept p rest next) (new p rest next)).0 (f, n) ≡ true
            → (is_current (revised old rest next).0 (f, n) ≡ true → (is_current old.revisions (f, n) ≡ true) × (procedure_of old.tree f ≡ procedure_of rest f))
            → (is_current (revised old rest (suc next)).0 (f, n) ≡ true → (is_current old.revisions (f, n) ≡ true) × (procedure_of old.tree f ≡ procedure_of rest f))
            → (is_current old.revisions (f, n) ≡ true) × (procedure_of old.tree f ≡ cond (bytes_eq p.called f) (Some p) (procedure_of rest f))
        by_same true same e later after = by_kept same (bytes_eq p.called f) refl e later
        by_same false same e later after = by_new (bytes_eq p.called f) refl e after

    -- each number is below the new counter
    all_below : (tree : Tree) (next : ℕ) → old.counter ≤ next → (f : Name) → revision_of (revised old tree next).0 f < (revised old tree next).1
    all_below [] next l f = let z : revision_of old.revisions f < old.counter = numbers.below f in omega (arith, z, l)
    all_below (reducer r ∷ rest) next l f = all_below rest next l f
    all_below (procedure p ∷ rest) next l f = by_same (is_same (procedure_of old.tree p.called) p) (all_below rest next l f) (all_below rest (suc next) (omega (arith, l)) f)
      where
        by_same : (s : Bool) → revision_of (revised old rest next).0 f < (revised old rest next).1 → revision_of (revised old rest (suc next)).0 f < (revised old rest (suc next)).1 → revision_of (cond s (kept p rest next) (new p rest next)).0 f < (cond s (kept p rest next) (new p rest next)).1
        by_same true h k =
            let a : edits.revision_of old.revisions p.called < old.counter = subst (λ w. w < old.counter) (sym (revision_same old.revisions p.called)) (numbers.below p.called) in
            let b : next ≤ (revised old rest next).1 = grows rest next in
            below_cond (bytes_eq p.called f) (edits.revision_of old.revisions p.called) (revision_of (revised old rest next).0 f) (revised old rest next).1 (omega (arith, a, b, l)) h
        by_same false h k =
            let b : suc next ≤ (revised old rest (suc next)).1 = grows rest (suc next) in
            below_cond (bytes_eq p.called f) next (revision_of (revised old rest (suc next)).0 f) (revised old rest (suc next)).1 (omega (arith, b)) k

  -- each procedure that is there has a number
  all_named : (tree : Tree) (next : ℕ) (f : Name) → is_there (procedure_of tree f) ≡ true → is_current (revised old tree next).0 (f, revision_of (revised old tree next).0 f) ≡ true
  all_named [] next f e = absurd cc
  all_named (reducer r ∷ rest) next f e = all_named rest next f e
  all_named (procedure p ∷ rest) next f e = by_same (is_same (procedure_of old.tree p.called) p) (λ e. all_named rest next f e) (λ e. all_named rest (suc next) f e)
    where
      by_name : (t : Bool) (m : ℕ) (rs : List (Name × ℕ)) → is_there (cond t (Some p) (procedure_of rest f)) ≡ true → (is_there (procedure_of rest f) ≡ true → is_current rs (f, revision_of rs f) ≡ true) → cond t (nat_eq m (cond t m (revision_of rs f))) (is_current rs (f, cond t m (revision_of rs f))) ≡ true
      by_name true m rs e later = (Decides-eqb m m).1 refl
      by_name false m rs e later = later e

      by_same : (s : Bool) → (is_there (procedure_of rest f) ≡ true → is_current (revised old rest next).0 (f, revision_of (revised old rest next).0 f) ≡ true) → (is_there (procedure_of rest f) ≡ true → is_current (revised old rest (suc next)).0 (f, revision_of (revised old rest (suc next)).0 f) ≡ true)
          → is_current (cond s (kept p rest next) (new p rest next)).0 (f, revision_of (cond s (kept p rest next) (new p rest next)).0 f) ≡ true
      by_same true later after = by_name (bytes_eq p.called f) (edits.revision_of old.revisions p.called) (revised old rest next).0 e later
      by_same false later after = by_name (bytes_eq p.called f) next (revised old rest (suc next)).0 e after

-- what each of some procedures has, each that is entered has
module _ (A B : Name → Type 0) (h : (f : Name) → A f → B f) where
  mutual
    enters_deed : (d : Deed) → EntersOnlyDeed A d → EntersOnlyDeed B d
    enters_deed (bind x e) k = tt
    enters_deed (enter x way f es) k = h f k
    enters_deed (read x r) k = tt
    enters_deed sync k = tt
    enters_deed (update r es) k = tt
    enters_deed (choose e a b) k = (enters_body a k.0, enters_body b k.1)
    enters_deed (loop x e f grain g es) k = h g k
    enters_deed (give e) k = tt

    enters_body : (b : Body) → EntersOnly A b → EntersOnly B b
    enters_body end k = tt
    enters_body (step s d b) k = (enters_deed d k.0, enters_body b k.1)

pub defines_keep : (old : Revised) (tree : Tree) → IsNumbered old → DefinesKeep old tree
unfolding Unchanged
defines_keep old tree numbers =
    record {
      later = λ reds. record {
        reducers_are = reds;
        counted = grows old tree old.counter;
        unchanged = λ f n b e. let u = unchanged old numbers tree old.counter (omega arith) f n b e in (u.0, ap found u.1);
      };
      numbered = λ complete. record {
        below = all_below old numbers tree old.counter (omega arith);
        named = all_named old tree old.counter;
        entered = λ f. enters_body (λ g. is_there (procedure_of tree g) ≡ true) (HasNumber (redefined old tree)) (all_named old tree old.counter) (found (procedure_of tree f)).body (complete f);
      };
    }
