-- Records with their numbers, as they are found and put in.
use Rattle.std.proofs.Common.{◌≡◌, ℕ, zero, suc, ◌+◌, ◌≤◌, ℤ, Bool, true, false, cond, not, List, [], ◌∷◌, map, take, replicate, length, Some, None, refl, sym, ap, ◌∙◌, subst, arith}
use Rattle.std.specs.Prelude.{nat_eq, slice_get}
use Rattle.std.specs.List.{find, position_or_len, AllByRecursion, IsDistinct}
use Rattle.std.proofs.lemmas.List.{nil_from_length, length-take-le, length-replicate}
use Rattle.record_theory.specs.Record.{PlainRecord, same_instance, is_of, as_made}
use Rattle.record_theory.specs.Numbers.{numbered_by, with_numbers, HaveNumbers, told_by, numbers_then}
use Rattle.record_numbers.specs.Stale.{cleared}
use Rattle.record_theory.specs.Commits.{put_record, put_records, AreSingle}
use Rattle.meaning.specs.Tables.{Tables}
use Rattle.record_theory.specs.InStep.{IsInStep, ReadNow}
use Rattle.rerun_records.specs.Put.{ArePut}
use Rattle.rerun_records.specs.Blocks.{is_fresh_at}
use Rattle.evaluation.specs.declared.note.Note.{Note}
use Rattle.record_theory.proofs.Puts.{still_as_made}

one_more : (n : ℕ) → 1 + n ≡ suc n
one_more n = omega arith

pub same_without_numbers : (ns : List ℕ) (rs : List PlainRecord) → map as_made (with_numbers ns rs) ≡ map as_made rs
same_without_numbers ns [] = refl
same_without_numbers [] (r ∷ rs) = ap (λ xs. as_made r ∷ xs) (same_without_numbers [] rs)
same_without_numbers (n ∷ ns) (r ∷ rs) = ap (λ xs. as_made r ∷ xs) (same_without_numbers ns rs)

pub length_with_numbers : (ns : List ℕ) (rs : List PlainRecord) → length (with_numbers ns rs) ≡ length rs
length_with_numbers ns [] = refl
length_with_numbers [] (r ∷ rs) = ap suc (length_with_numbers [] rs)
length_with_numbers (n ∷ ns) (r ∷ rs) = ap suc (length_with_numbers ns rs)

-- ---- no two are of one procedure and arguments

others_stand : (ns : List ℕ) (x : PlainRecord) (rs : List PlainRecord) → AllByRecursion (λ y. same_instance x y ≡ false) rs → AllByRecursion (λ y. same_instance x y ≡ false) (with_numbers ns rs)
others_stand ns x [] h = h
others_stand [] x (r ∷ rs) h = (h.0, others_stand [] x rs h.1)
others_stand (n ∷ ns) x (r ∷ rs) h = (h.0, others_stand ns x rs h.1)

pub single_with_numbers : (ns : List ℕ) (rs : List PlainRecord) → AreSingle rs → AreSingle (with_numbers ns rs)
unfolding IsDistinct
single_with_numbers ns [] h = h
single_with_numbers [] (r ∷ rs) h = (others_stand [] r rs h.0, single_with_numbers [] rs h.1)
single_with_numbers (n ∷ ns) (r ∷ rs) h = (others_stand ns r rs h.0, single_with_numbers ns rs h.1)

-- ---- how they are found

module _ (procedure : ℕ) (arguments : List ℤ) where
  none_one : (b : Bool) (r s : PlainRecord) (rs ss : List PlainRecord)
      → (find (is_of procedure arguments) rs ≡ None → find (is_of procedure arguments) ss ≡ None)
      → cond b (Some r) (find (is_of procedure arguments) rs) ≡ None → cond b (Some s) (find (is_of procedure arguments) ss) ≡ None
  none_one true r s rs ss f h = absurd cc
  none_one false r s rs ss f h = f h

  pub none_numbered : (ns : List ℕ) (rs : List PlainRecord) → find (is_of procedure arguments) rs ≡ None → find (is_of procedure arguments) (with_numbers ns rs) ≡ None
  none_numbered ns [] h = refl
  none_numbered [] (r ∷ rs) h = none_one (is_of procedure arguments r) r r rs (with_numbers [] rs) (none_numbered [] rs) h
  none_numbered (n ∷ ns) (r ∷ rs) h = none_one (is_of procedure arguments r) r (numbered_by n r) rs (with_numbers ns rs) (none_numbered ns rs) h

-- the number of the record at a place stands at that place
pub number_at : (ns : List ℕ) (rs : List PlainRecord) (p : ℕ) (r : PlainRecord) → length ns ≡ length rs → slice_get (with_numbers ns rs) p ≡ Some r → slice_get ns p ≡ Some r.stale
number_at ns [] p r l e = absurd cc
number_at [] (x ∷ xs) p r l e = absurd (omega (arith, l))
number_at (n ∷ ns) (x ∷ xs) zero r l e = let same : numbered_by n x ≡ r = cc (e) in ap (λ (y : PlainRecord). Some y.stale) same
number_at (n ∷ ns) (x ∷ xs) (suc p) r l e = number_at ns xs p r (omega (arith, l)) e

-- where it is 0 nothing is counted of the record
pub fresh_at : (ns : List ℕ) (rs : List PlainRecord) (p n : ℕ) → length ns ≡ length rs → slice_get ns p ≡ Some n → nat_eq n 0 ≡ true → is_fresh_at (with_numbers ns rs) p ≡ true
fresh_at [] rs p n l e f = absurd cc
fresh_at (m ∷ ms) [] p n l e f = absurd (omega (arith, l))
fresh_at (m ∷ ms) (x ∷ xs) zero n l e f = let same : m ≡ n = cc (e) in ap (λ k. nat_eq k 0) same ∙ f
fresh_at (m ∷ ms) (x ∷ xs) (suc p) n l e f = fresh_at ms xs p n (omega (arith, l)) e f

-- where it is another one something is
pub counted_at : (ns : List ℕ) (rs : List PlainRecord) (p n : ℕ) → length ns ≡ length rs → slice_get ns p ≡ Some n → nat_eq n 0 ≡ false → is_fresh_at (with_numbers ns rs) p ≡ false
counted_at [] rs p n l e f = absurd cc
counted_at (m ∷ ms) [] p n l e f = absurd (omega (arith, l))
counted_at (m ∷ ms) (x ∷ xs) zero n l e f = let same : m ≡ n = cc (e) in ap (λ k. nat_eq k 0) same ∙ f
counted_at (m ∷ ms) (x ∷ xs) (suc p) n l e f = counted_at ms xs p n (omega (arith, l)) e f

pub of_not : (b : Bool) → not b ≡ true → b ≡ false
of_not true e = sym e
of_not false e = refl

-- ---- how they are put in

-- the place of a record is within, or behind the others
pub place_within : (r : PlainRecord) (rs : List PlainRecord) → position_or_len (same_instance r) rs ≤ length rs
place_within r [] = omega arith
place_within r (s ∷ ss) =
    elim (same_instance r s) as (λ b. cond (not b) (1 + position_or_len (same_instance r) ss) 0 ≤ suc (length ss)) [
      | true ↦ omega arith
      | false ↦ (let h = place_within r ss in omega (arith, h))
    ]

-- the place of a record in a list
abbrev pub at : PlainRecord → List PlainRecord → ℕ
at r rs = position_or_len (same_instance r) rs

-- its place goes by its key alone
pub place_with_numbers : (ns : List ℕ) (rs : List PlainRecord) (r : PlainRecord) → position_or_len (same_instance r) (with_numbers ns rs) ≡ position_or_len (same_instance r) rs
place_with_numbers ns [] r = refl
place_with_numbers [] (x ∷ xs) r = ap (λ n. cond (not (same_instance r x)) (1 + n) 0) (place_with_numbers [] xs r)
place_with_numbers (n ∷ ns) (x ∷ xs) r = ap (λ n. cond (not (same_instance r x)) (1 + n) 0) (place_with_numbers ns xs r)

cleared_put : (ns : List ℕ) (rs : List PlainRecord) (r : PlainRecord) → as_made r ≡ r → length ns ≡ length rs → with_numbers (cleared ns (at r rs)) (put_record rs r) ≡ put_record (with_numbers ns rs) r
cleared_put [] [] r s l = ap (λ x. x ∷ []) s
cleared_put [] (x ∷ xs) r s l = absurd (omega (arith, l))
cleared_put (n ∷ ns) [] r s l = absurd (omega (arith, l))
cleared_put (n ∷ ns) (x ∷ xs) r s l =
    elim (same_instance r x) as (λ b. with_numbers (cleared (n ∷ ns) (cond (not b) (1 + at r xs) 0)) (cond b (r ∷ xs) (x ∷ put_record xs r))
    ≡ cond b (r ∷ with_numbers ns xs) (numbered_by n x ∷ put_record (with_numbers ns xs) r)) [
      | true ↦ ap (λ y. y ∷ with_numbers ns xs) s
      | false ↦
          (let shorter : length ns ≡ length xs = omega (arith, l) in
          subst (λ m. with_numbers (cleared (n ∷ ns) m) (x ∷ put_record xs r) ≡ numbered_by n x ∷ put_record (with_numbers ns xs) r) (sym (one_more (at r xs)))
          (ap (λ ys. numbered_by n x ∷ ys) (cleared_put ns xs r s shorter)))
    ]

cleared_length : (ns : List ℕ) (rs : List PlainRecord) (r : PlainRecord) → length ns ≡ length rs → length (cleared ns (at r rs)) ≡ length (put_record rs r)
cleared_length [] [] r l = refl
cleared_length [] (x ∷ xs) r l = absurd (omega (arith, l))
cleared_length (n ∷ ns) [] r l = absurd (omega (arith, l))
cleared_length (n ∷ ns) (x ∷ xs) r l =
    let shorter : length ns ≡ length xs = omega (arith, l) in
    elim (same_instance r x) as (λ b. length (cleared (n ∷ ns) (cond (not b) (1 + at r xs) 0)) ≡ length (cond b (r ∷ xs) (x ∷ put_record xs r))) [
      | true ↦ ap suc shorter
      | false ↦
          subst (λ m. length (cleared (n ∷ ns) m) ≡ length (x ∷ put_record xs r)) (sym (one_more (at r xs)))
          (ap suc (cleared_length ns xs r shorter))
    ]

module _ (ns ms : List ℕ) (rs now : List PlainRecord) (r : PlainRecord) (place : ℕ) (keys : now ≡ put_record rs r) (made : as_made r ≡ r) (found : place ≡ at r rs) (clears : ms ≡ cleared ns place)
    (h : HaveNumbers ns rs) where
  -- with a record put in, each has its number
  pub still_numbered : AreSingle now → HaveNumbers ms now
  still_numbered single =
      rw (clears, found)
      (record {
        single = single;
        as_made_are = still_as_made rs now r h.as_made_are keys made;
        places = cleared_length ns rs r h.places ∙ sym (ap length keys);
      })

  pub put_numbered : with_numbers ms now ≡ put_record (with_numbers ns rs) r
  put_numbered =
      ap (λ xs. with_numbers xs now) (clears ∙ ap (cleared ns) found)
      ∙ ap (with_numbers (cleared ns (at r rs))) keys ∙ cleared_put ns rs r made h.places

  pub place_there : place ≤ length ns
  place_there = rw (found, h.places) (place_within r rs)

-- at most one more
one_longer : (ns : List ℕ) (place : ℕ) → length (cleared ns place) ≤ length ns + 1
one_longer [] place = omega arith
one_longer (m ∷ ms) zero = omega arith
one_longer (m ∷ ms) (suc place) = let h = one_longer ms place in omega (arith, h)

pub one_longer_so : (ns ms : List ℕ) (place : ℕ) → ms ≡ cleared ns place → length ms ≤ length ns + 1
one_longer_so ns ms place e = rw e (one_longer ns place)

-- what is shown of numbers and records is shown of equal ones
pub same_view : (ns ms : List ℕ) (rs ss now : List PlainRecord) → ms ≡ ns → ss ≡ rs → with_numbers ns rs ≡ now → with_numbers ms ss ≡ now
same_view ns ms rs ss now n r v = ap (λ xs. with_numbers xs ss) n ∙ ap (with_numbers ns) r ∙ v

-- records that were put in among the same ones
pub put_into : (ns ms news : List ℕ) (rs ss keys now made : List PlainRecord) → ms ≡ ns → ss ≡ rs → with_numbers ns rs ≡ now
    → with_numbers news keys ≡ put_records (with_numbers ms ss) made → with_numbers news keys ≡ put_records now made
put_into ns ms news rs ss keys now made n r v p = p ∙ ap (λ xs. put_records (with_numbers xs ss) made) n ∙ ap (λ xs. put_records (with_numbers ns xs) made) r ∙ ap (λ xs. put_records xs made) v

pub as_made_put_into : (ns ms news : List ℕ) (rs ss keys now made : List PlainRecord) → ms ≡ ns → ss ≡ rs → with_numbers ns rs ≡ now
    → map as_made (with_numbers news keys) ≡ put_records (map as_made (with_numbers ms ss)) made → map as_made (with_numbers news keys) ≡ put_records (map as_made now) made
as_made_put_into ns ms news rs ss keys now made n r v p =
    p ∙ ap (λ xs. put_records (map as_made (with_numbers xs ss)) made) n ∙ ap (λ xs. put_records (map as_made (with_numbers ns xs)) made) r ∙ ap (λ xs. put_records (map as_made xs) made) v

-- no records
pub none_numbers : (ns : List ℕ) (rs : List PlainRecord) → ns ≡ [] → rs ≡ [] → HaveNumbers ns rs
unfolding IsDistinct
none_numbers ns rs n r = rw (n, r) (record { single = tt; as_made_are = refl; places = refl })

pub none_in_view : (ns : List ℕ) (rs now : List PlainRecord) → with_numbers ns rs ≡ now → length now ≡ 0 → rs ≡ []
none_in_view ns rs now v n = nil_from_length rs (sym (length_with_numbers ns rs) ∙ ap length v ∙ n)

pub none_counted : (ns : List ℕ) (rs : List PlainRecord) → length ns ≡ length rs → rs ≡ [] → ns ≡ []
none_counted ns rs l n = nil_from_length ns (l ∙ ap length n)

-- ---- numbers that are all 0

with_zeros : (k n : ℕ) (rs : List PlainRecord) → map as_made rs ≡ rs → with_numbers (take k (replicate n zero)) rs ≡ rs
with_zeros k n [] e = refl
with_zeros zero n (r ∷ rs) e = let tails : map as_made rs ≡ rs = cc (e) in ap (λ xs. r ∷ xs) (with_none rs)
  where
    with_none : (xs : List PlainRecord) → with_numbers [] xs ≡ xs
    with_none [] = refl
    with_none (x ∷ xs) = ap (λ ys. x ∷ ys) (with_none xs)
with_zeros (suc k) zero (r ∷ rs) e = let tails : map as_made rs ≡ rs = cc (e) in ap (λ xs. r ∷ xs) (with_zeros zero zero rs tails)
with_zeros (suc k) (suc n) (r ∷ rs) e =
    let head : as_made r ≡ r = cc (e) in
    let tails : map as_made rs ≡ rs = cc (e) in
    ap (λ x. x ∷ with_numbers (take k (replicate n zero)) rs) head ∙ ap (λ xs. r ∷ xs) (with_zeros k n rs tails)

module _ (ns zeros : List ℕ) (n count : ℕ) (rs : List PlainRecord) (cut : ns ≡ take n zeros) (none : zeros ≡ replicate count zero) (whole : n ≡ length rs) (made_are : map as_made rs ≡ rs) where
  -- they are shown of the records as these are
  pub zeros_view : with_numbers ns rs ≡ rs
  zeros_view = ap (λ xs. with_numbers xs rs) (cut ∙ ap (take n) none) ∙ with_zeros n count rs made_are

  pub zeros_numbers : length rs ≤ count → AreSingle rs → HaveNumbers ns rs
  zeros_numbers few single = record {
    single = single;
    as_made_are = made_are;
    places =
        ap length (cut ∙ ap (take n) none)
        ∙ length-take-le n (replicate count zero) (let l : length {A = ℕ} (replicate count zero) ≡ count = length-replicate count zero in omega (arith, l, few, whole)) ∙ whole;
  }

  -- records that were put in where there were none
  pub first_put : (old made : List PlainRecord) → length old ≡ 0 → rs ≡ put_records [] made → ((tables : Tables) → ReadNow tables made → IsInStep tables rs) → ArePut old made (with_numbers ns rs)
  first_put old made nothing put step = record {
    put = zeros_view ∙ put ∙ ap (λ xs. put_records xs made) (sym (nil_from_length old nothing));
    put_as_made = ap (map as_made) zeros_view ∙ made_are ∙ put ∙ ap (λ xs. put_records (map as_made xs) made) (sym (nil_from_length old nothing));
    in_step = λ tables h read. subst (IsInStep tables) (sym zeros_view) (step tables read);
  }

-- ---- how they are told

pub told_with_numbers : (lost won : List Note) (ns : List ℕ) (rs : List PlainRecord) → length ns ≡ length rs → with_numbers (numbers_then lost won ns rs) rs ≡ map (told_by lost won) (with_numbers ns rs)
told_with_numbers lost won [] [] l = refl
told_with_numbers lost won [] (r ∷ rs) l = absurd (omega (arith, l))
told_with_numbers lost won (n ∷ ns) [] l = refl
told_with_numbers lost won (n ∷ ns) (r ∷ rs) l = ap (λ xs. told_by lost won (numbered_by n r) ∷ xs) (told_with_numbers lost won ns rs (omega (arith, l)))

pub told_so : (lost won : List Note) (ns ms : List ℕ) (rs now : List PlainRecord) → length ns ≡ length rs → ms ≡ numbers_then lost won ns rs → with_numbers ns rs ≡ now → with_numbers ms rs ≡ map (told_by lost won) now
told_so lost won ns ms rs now l m v = ap (λ xs. with_numbers xs rs) m ∙ told_with_numbers lost won ns rs l ∙ ap (map (told_by lost won)) v
