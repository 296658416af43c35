-- Records that others are put in: what was told of their procedures, and the room for a row.
use Rattle.std.proofs.Common.{◌≡◌, inl, inr, ℕ, zero, suc, ◌≤◌, ◌<◌, Bool, true, false, true≢false, cond, List, [], ◌∷◌, length, Option, Some, None, refl, sym, ap, ◌∙◌, subst, arith}
use Rattle.std.specs.Prelude.{nat_lt, take, slice_get, IfSome, IfNone}
use Rattle.std.proofs.lemmas.Bool.{ltb-true, lt-ltb, and_from}
use Rattle.std.proofs.lemmas.List.{take_all, length-take}
use Rattle.meaning.specs.Tree.{Name}
use Rattle.meaning.specs.Every.{every}
use Rattle.meaning.specs.Tables.{Tables}
use Rattle.record_theory.specs.Record.{PlainRecord, same_instance}
use Rattle.record_theory.specs.Commits.{put_record, put_records}
use Rattle.record_theory.specs.Validity.{is_revision, has_revision}
use Rattle.record_theory.proofs.Members.{left_is, right_is, every_weaker}
use Rattle.record_index.specs.Befores.{PlainChanges, HasRoomFor}
use Rattle.record_index.specs.Indexed.{is_within, AreTold, are_current, EnteredNow}

-- ---- a test of records that all pass, and those that are put in

module _ (q : PlainRecord → Bool) where
  every_put : (rs : List PlainRecord) (m : PlainRecord) → every q rs ≡ true → q m ≡ true → every q (put_record rs m) ≡ true
  every_put [] m a e = and_from (q m) true e refl
  every_put (x ∷ xs) m a e =
      elim (same_instance m x) as (λ b. every q (cond b (m ∷ xs) (x ∷ put_record xs m)) ≡ true) [
        | true ↦ and_from (q m) (every q xs) e (right_is (q x) (every q xs) a)
        | false ↦ and_from (q x) (every q (put_record xs m)) (left_is (q x) (every q xs) a) (every_put xs m (right_is (q x) (every q xs) a) e)
      ]

  pub every_put_in : (rs ms : List PlainRecord) → every q rs ≡ true → every q ms ≡ true → every q (put_records rs ms) ≡ true
  every_put_in rs [] a b = a
  every_put_in rs (m ∷ ms) a b = every_put_in (put_record rs m) ms (every_put rs m a (left_is (q m) (every q ms) b)) (right_is (q m) (every q ms) b)

-- ---- the element at a place

some_within : {A : Type 0} (xs : List A) (p : ℕ) (x : A) → slice_get xs p ≡ Some x → p < length xs
some_within [] p x e = absurd cc
some_within (y ∷ ys) zero x e = omega arith
some_within (y ∷ ys) (suc p) x e = let h = some_within ys p x e in omega (arith, h)

-- ---- what was told of the procedures

less_more : (i k l : ℕ) → k ≤ l → nat_lt i k ≡ true → nat_lt i l ≡ true
less_more i k l m e = let less = ltb-true i k e in lt-ltb i l (omega (arith, less, m))

within_more : (k l : ℕ) (r : PlainRecord) → k ≤ l → is_within k r ≡ true → is_within l r ≡ true
within_more k l r m e =
    and_from (nat_lt r.procedure l) (every (λ x. nat_lt x.0 l) r.entered) (less_more r.procedure k l m (left_is (nat_lt r.procedure k) (every (λ x. nat_lt x.0 k) r.entered) e))
    (every_weaker (λ x. nat_lt x.0 k) (λ x. nat_lt x.0 l) r.entered (λ x h. less_more x.0 k l m h) (right_is (nat_lt r.procedure k) (every (λ x. nat_lt x.0 k) r.entered) e))

-- what has a revision number is among the revisions
has_within : (revisions : List (Name × ℕ)) (e : ℕ × ℕ) → has_revision revisions e ≡ true → nat_lt e.0 (length revisions) ≡ true
has_within revisions e h =
    elim (slice_get revisions e.0) as (λ o. slice_get revisions e.0 ≡ o → is_revision o e.1 ≡ true → nat_lt e.0 (length revisions) ≡ true) [
      | None ↦ λ _ f. absurd (true≢false (sym f))
      | Some x ↦ λ g _. lt-ltb e.0 (length revisions) (some_within revisions e.0 x g)
    ] refl h

current_within : (revisions : List (Name × ℕ)) (r : PlainRecord) → are_current revisions r ≡ true → is_within (length revisions) r ≡ true
current_within revisions r e =
    and_from (nat_lt r.procedure (length revisions)) (every (λ x. nat_lt x.0 (length revisions)) r.entered)
    (left_is (nat_lt r.procedure (length revisions)) (every (has_revision revisions) r.entered) e)
    (every_weaker (has_revision revisions) (λ x. nat_lt x.0 (length revisions)) r.entered (has_within revisions) (right_is (nat_lt r.procedure (length revisions)) (every (has_revision revisions) r.entered) e))

-- once all is told, no record names a later procedure
pub told_put : (revisions before told : List (Name × ℕ)) (old made : List PlainRecord) → AreTold revisions before old → told ≡ revisions → EnteredNow revisions made
    → AreTold revisions told (put_records old made)
told_put revisions before told old made h e entered =
    let fewer : length before ≤ length revisions = (let long : length before ≡ length (take (length before) revisions) = ap length h.first in let cut = length-take (length before) revisions in omega (arith, long, cut)) in
    subst (λ ts. AreTold revisions ts (put_records old made)) (sym e)
    (record {
      first = sym (take_all (length revisions) revisions (omega arith));
      within =
          every_put_in (is_within (length revisions)) old made
          (every_weaker (is_within (length before)) (is_within (length revisions)) old (λ r w. within_more (length before) (length revisions) r fewer w) h.within)
          (every_weaker (are_current revisions) (is_within (length revisions)) made (current_within revisions) entered);
    })

-- ---- what is told, and room that is made

-- all is told, whether it was told before or is now
pub all_told : (revisions before told : List (Name × ℕ)) (made : Option (List (Name × ℕ))) → IfSome made (λ t. told ≡ t) → IfNone made (told ≡ before) → IfNone made (before ≡ revisions)
    → IfSome made (λ t. t ≡ revisions) → told ≡ revisions
all_told revisions before told None is still all some = still ∙ all
all_told revisions before told (Some t) is still all some = is ∙ some

-- there is room, whether it was there before or is made now
pub room_made : (tables : Tables) (before now : PlainChanges) (made : Option PlainChanges) → IfSome made (λ b. now ≡ b) → IfNone made (now ≡ before) → IfNone made (HasRoomFor tables before.room)
    → IfSome made (λ b. HasRoomFor tables b.room) → HasRoomFor tables now.room
room_made tables before now None is still all some = subst (λ (b : PlainChanges). HasRoomFor tables b.room) (sym still) all
room_made tables before now (Some b) is still all some = subst (λ (b : PlainChanges). HasRoomFor tables b.room) (sym is) some
