-- What is known of a record that answers: it is one of the records, and has the arguments that were asked for.
use Rattle.std.proofs.Common.{◌≡◌, ℕ, zero, suc, nat_eq, Bool, true, false, cond, ◌&&◌, ℤ, List, [], ◌∷◌, Option, Some, None, refl, sym, subst}
use Rattle.std.specs.List.{find}
use Rattle.std.specs.Ordering.{int_eq}
use Rattle.std.specs.Cmp.Lexicographic.{pointwise}
use Rattle.std.proofs.lemmas.Bool.Decides.{Decides-int_eq}
use Rattle.std.proofs.lemmas.Slice.Eq.{slice_eq-Decides}
use Rattle.record_theory.specs.Record.{PlainRecord, is_of, as_made}
use Rattle.record_theory.specs.Validity.{only_valid, record_valid}
use Rattle.positions.specs.Setting.{Setting}
use Rattle.positions.specs.Advance.{record_for}

-- what is claimed of a record that has passed a test
by_cond : {A : Type 0} (P : A → Type 0) (is : Bool) (y x : A) (found : Option A) → (is ≡ true → P y) → (found ≡ Some x → P x) → cond is (Some y) found ≡ Some x → P x
by_cond P true y x found h f e = subst P (let q : y ≡ x = cc in q) (h refl)
by_cond P false y x found h f e = f e

found_passes : {A : Type 0} (P : A → Type 0) (test : A → Bool) (xs : List A) (x : A) → ((i : A) → test i ≡ true → P i) → find test xs ≡ Some x → P x
found_passes P test [] x h e = absurd cc
found_passes P test (y ∷ xs) x h e = by_cond P (test y) y x (find test xs) (h y) (λ f. found_passes P test xs x h f) e

right_too : (a b : Bool) → (a && b) ≡ true → b ≡ true
right_too true b e = e
right_too false b e = absurd cc

same_arguments : (f : ℕ) (vs : List ℤ) (q : PlainRecord) → is_of f vs q ≡ true → q.arguments ≡ vs
same_arguments f vs q e = sym ((slice_eq-Decides Decides-int_eq vs q.arguments (pointwise int_eq vs q.arguments) refl).0 (right_too (nat_eq f q.procedure) (pointwise int_eq vs q.arguments) e))

module _ (setting : Setting) where
  valid_has : (P : PlainRecord → Type 0) (depth : ℕ) (o : Option PlainRecord) (x : PlainRecord) → ((r : PlainRecord) → o ≡ Some r → P (as_made r)) → only_valid setting.program.revisions setting.tables depth o ≡ Some x → P x
  valid_has P depth None x h e = absurd cc
  valid_has P depth (Some r) x h e = by_cond P (record_valid setting.program.revisions setting.tables depth r) (as_made r) x None (λ t. h r refl) (λ f. absurd cc) e

  -- it has the arguments that were asked for
  pub found_arguments : (depth procedure : ℕ) (vs : List ℤ) (r : PlainRecord) → record_for setting depth procedure vs ≡ Some r → r.arguments ≡ vs
  found_arguments zero procedure vs r e = absurd cc
  found_arguments (suc d) procedure vs r e =
      valid_has (λ (q : PlainRecord). q.arguments ≡ vs) (suc d) (find (is_of procedure vs) setting.records) r
      (λ q f. found_passes (λ (p : PlainRecord). p.arguments ≡ vs) (is_of procedure vs) setting.records q (same_arguments procedure vs) f) e
