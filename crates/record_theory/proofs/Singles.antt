-- A record that is valid is one of the records, and a batch of one instance.
use Rattle.std.proofs.Common.{◌≡◌, inl, inr, ℕ, suc, zero, ◌+◌, ◌<◌, ◌≤◌, ℤ, Bool, true, false, true≢false, cond, List, [], ◌∷◌, ◌++◌, length, Option, Some, None, All, refl, sym, ap, ◌∙◌, subst, arith, slice_get, get_or}
use Rattle.std.specs.Prelude.{nat_le, slice_set, pos}
use Rattle.std.specs.List.{find}
use Rattle.std.proofs.lemmas.List.Elements.{All-tail}
use Rattle.std.proofs.lemmas.Bool.Decides.{leb_tells}
use Rattle.std.proofs.lemmas.Option.{slice_get-get_or}
use Rattle.meaning.specs.Tree.{Name}
use Rattle.meaning.specs.Elision.{depth_limit}
use Rattle.meaning.specs.Tables.{Tables}
use Rattle.monoid_laws.specs.declared.Kind.{Kind}
use Rattle.linked_program.specs.Checked.{PlainChecked}
use Rattle.record_theory.specs.Record.{PlainRecord, is_of, as_made}
use Rattle.record_theory.specs.Validity.{record_holds, record_valid, only_valid, valid_at}
use Rattle.record_theory.specs.Named.{HasValuesIfAnswers, HaveValues, AreValuesFrom, SameMembers}
use Rattle.record_theory.specs.Sums.{IsSumOf}
use Rattle.record_theory.specs.Batches.{IsBatch}
use Rattle.record_theory.proofs.Members.{right_is}

-- ---- a valid record is one of the records

found_by : {A : Type 0} (P : A → Type 0) (is : Bool) (y x : A) (found : Option A) → P y → (found ≡ Some x → P x) → cond is (Some y) found ≡ Some x → P x
found_by P true y x found h f e = subst P (let q : y ≡ x = cc in q) h
found_by P false y x found h f e = f e

pub found_has : {A : Type 0} (P : A → Type 0) (test : A → Bool) (xs : List A) (x : A) → All P xs → find test xs ≡ Some x → P x
found_has P test [] x h e = absurd cc
found_has P test (y ∷ xs) x h e = found_by P (test y) y x (find test xs) (h 0 y (omega arith)) (λ f. found_has P test xs x (All-tail P y xs h) f) e

valid_has : (P : PlainRecord → Type 0) (valid : Bool) (r x : PlainRecord) → (valid ≡ true → P r) → Some x ≡ cond valid (Some r) None → P x
valid_has P true r x h e = subst P (let q : r ≡ x = cc in q) (h refl)
valid_has P false r x h e = absurd cc

pub is_le : (a b : ℕ) → nat_le a b ≡ true → a ≤ b
is_le a b e =
    elim (leb_tells a b) as (λ _. a ≤ b) [
      | inl le ↦ le.1
      | inr gt ↦ absurd (true≢false (sym e ∙ gt.0))
    ]

-- from some depth on, so many instances stay within the limit: so they do from the least
low_enough : (limit depth height : ℕ) → 0 < depth → depth + height ≤ suc limit → height ≤ limit
low_enough limit depth height deep l = omega (arith, deep, l)

module _ (revisions : List (Name × ℕ)) (tables : Tables) where
  only_has : (P : PlainRecord → Type 0) (depth : ℕ) (o : Option PlainRecord) (x : PlainRecord) → ((r : PlainRecord) → o ≡ Some r → record_valid revisions tables depth r ≡ true → P (as_made r))
      → Some x ≡ only_valid revisions tables depth o → P x
  only_has P depth None x h e = absurd cc
  only_has P depth (Some r) x h e = valid_has P (record_valid revisions tables depth r) (as_made r) x (h r refl) e

  -- a record that is valid at some depth is low enough to answer
  valid_low : (depth : ℕ) (r : PlainRecord) → 0 < depth → record_valid revisions tables depth r ≡ true → r.height ≤ depth_limit
  valid_low depth r deep v =
      low_enough depth_limit depth r.height deep (is_le (depth + r.height) (suc depth_limit) (right_is (record_holds revisions tables r) (nat_le (depth + r.height) (suc depth_limit)) v))

  -- what it contributes are values of the reducers' kinds
  pub valid_values : (ks : List Kind) (depth procedure : ℕ) (arguments : List ℤ) (records : List PlainRecord) (r : PlainRecord) → 0 < depth → HaveValues ks records
      → Some r ≡ valid_at revisions tables depth records procedure arguments → AreValuesFrom 0 ks r.contribution
  valid_values ks depth procedure arguments records r deep h e =
      only_has (λ (q : PlainRecord). AreValuesFrom 0 ks q.contribution) depth (find (is_of procedure arguments) records) r
      (λ q f v. found_has (HasValuesIfAnswers ks) (is_of procedure arguments) records q h f (valid_low depth q deep v)) e

-- ---- a batch of one

pub set_itself : (xs : List ℤ) (i : ℕ) (v : ℤ) → slice_get xs i ≡ Some v → slice_set xs i v ≡ xs
set_itself [] i v e = absurd cc
set_itself (x ∷ xs) zero v e = ap (λ z. z ∷ xs) (let q : v ≡ x = cc in q)
set_itself (x ∷ xs) (suc i) v e = ap (λ zs. x ∷ zs) (set_itself xs i v e)

nothing_behind : {A : Type 0} (xs : List A) → xs ++ [] ≡ xs
nothing_behind [] = refl
nothing_behind (x ∷ xs) = ap (λ ys. x ∷ ys) (nothing_behind xs)

same_behind : {A : Type 0} (xs ys : List A) → ys ≡ xs → SameMembers xs ys
same_behind xs ys e = subst (SameMembers xs) (sym e) (λ x. (λ c. c, λ c. c))

pub sum_of_one : (ks : List Kind) (r : PlainRecord) → AreValuesFrom 0 ks r.contribution → IsSumOf ks (r ∷ []) r
sum_of_one ks r values = record {
  worths = λ ws are. refl;
  values = values;
  reads = sym (nothing_behind r.reads);
  entered = same_behind r.entered (r.entered ++ []) (nothing_behind r.entered);
  height = omega arith;
  arguments = λ vs. refl;
}

pub batch_of_one : (program : PlainChecked) (tables : Tables) (depth : ℕ) (records : List PlainRecord) (procedure : ℕ) (arguments : List ℤ) (counted most : ℕ) (r : PlainRecord)
    → counted < length arguments → 0 < most → 0 < depth → HaveValues program.kinds records → Some r ≡ valid_at program.revisions tables depth records procedure arguments
    → IsBatch program tables depth records procedure arguments counted most 1 r
batch_of_one program tables depth records procedure arguments counted most r within some deep values valid =
    let first : ℤ = get_or arguments counted (pos 0) in
    let first_is : slice_get arguments counted ≡ Some first = slice_get-get_or arguments counted (pos 0) within in
    record {
      first = first;
      first_is = first_is;
      members = r ∷ [];
      count_is = refl;
      some = omega arith;
      few = omega (arith, some);
      valid = (ap (valid_at program.revisions tables depth records procedure) (set_itself arguments counted first first_is) ∙ sym valid, tt);
      sum_is = sum_of_one program.kinds r (valid_values program.revisions tables program.kinds depth procedure arguments records r deep values valid);
    }
