-- The valid one of sound records answers by a sound record.
use Rattle.std.proofs.Common.{ℕ, zero, suc, ◌+◌, List, [], ◌∷◌, Option, Some, None, ℤ, Bool, true, false, cond, ◌≡◌, refl, arith}
use Rattle.std.specs.Prelude.{nat_le, ◌&&◌}
use Rattle.std.specs.Str.{bytes_eq}
use Rattle.std.specs.Ordering.{int_eq}
use Rattle.std.specs.List.{find}
use Rattle.std.specs.Cmp.{signed_Decides}
use Rattle.std.proofs.lemmas.Bool.{leb-true}
use Rattle.std.proofs.lemmas.Slice.Eq.{bytes_eq-Decides}
use Rattle.meaning.specs.Tree.{Name}
use Rattle.meaning.specs.Tables.{Tables}
use Rattle.meaning.specs.Records.{Revised, Kept, IsSound, same_args, record_of, if_valid, is_valid, holds_now}
use Rattle.meaning.specs.Elision.{depth_limit}
use Rattle.trail_theory.specs.Order.{Every}
use Rattle.trail_theory.specs.MadeRecords.{IsAnswer}
use Rattle.trail_theory.specs.KeptRecords.{ValidAnswers}

pub both_left : (a b : Bool) → a && b ≡ true → a ≡ true
both_left true b e = refl
both_left false b e = e

pub both_right : (a b : Bool) → a && b ≡ true → b ≡ true
both_right true b e = e
both_right false b e = absurd cc

pub args_same : (xs ys : List ℤ) → same_args xs ys ≡ true → xs ≡ ys
args_same [] [] e = refl
args_same [] (y ∷ ys) e = absurd cc
args_same (x ∷ xs) [] e = absurd cc
args_same (x ∷ xs) (y ∷ ys) e =
    let p : x ≡ y = (signed_Decides x y).0 (both_left (int_eq x y) (same_args xs ys) e) in
    let q : xs ≡ ys = args_same xs ys (both_right (int_eq x y) (same_args xs ys) e) in
    rw (p, q) refl

-- what is found passes the test, and has what each record has
found_passes : {A : Type 0} (P : A → Type 0) (test : A → Bool) (xs : List A) (k : A) → Every P xs → find test xs ≡ Some k → P k × (test k ≡ true)
found_passes P test [] k h e = absurd cc
found_passes {A} P test (x ∷ xs) k h e = by_test (test x) refl e (found_passes P test xs k h.1)
  where
    by_test : (b : Bool) → test x ≡ b → cond b (Some x) (find test xs) ≡ Some k → (find test xs ≡ Some k → P k × (test k ≡ true)) → P k × (test k ≡ true)
    by_test true q r later = let s : x ≡ k = cc in (rw (← s) h.0, rw (← s) q)
    by_test false q r later = later r

module _ (program : Revised) (tables : Tables) (records : List Kept) (sound : Every (IsSound program) records) where
  valid_answer : (f : Name) (vs : List ℤ) (d : ℕ) (k : Kept) (found : Option Kept) → record_of records f vs ≡ found → if_valid program tables (suc d) found ≡ Some k → IsAnswer program tables f vs (suc d) k
  valid_answer f vs d k None q e = absurd cc
  valid_answer f vs d k (Some j) q e = by_valid (is_valid program tables (suc d) j) refl e
    where
      by_valid : (b : Bool) → is_valid program tables (suc d) j ≡ b → cond b (Some j) None ≡ Some k → IsAnswer program tables f vs (suc d) k
      by_valid false p r = absurd cc
      by_valid true p r =
          let s : j ≡ k = cc in
          let h = found_passes (IsSound program) (λ i. bytes_eq i.of f && same_args i.args vs) records j sound q in
          let fits = leb-true (suc d + j.height) (suc depth_limit) (both_right (holds_now program tables j) (nat_le (suc d + j.height) (suc depth_limit)) p) in
          rw (← s) (record {
            outermost = omega arith;
            named = (bytes_eq-Decides j.of f).0 (both_left (bytes_eq j.of f) (same_args j.args vs) h.1);
            called = args_same j.args vs (both_right (bytes_eq j.of f) (same_args j.args vs) h.1);
            sound = h.0;
            now = both_left (holds_now program tables j) (nat_le (suc d + j.height) (suc depth_limit)) p;
            fits = fits;
          })

pub valid_answers : (program : Revised) (tables : Tables) (records : List Kept) → ValidAnswers program tables records
valid_answers program tables records sound f vs zero k e = absurd cc
valid_answers program tables records sound f vs (suc d) k e = valid_answer program tables records sound f vs d k (record_of records f vs) refl e
