-- What a record's number tells of it, and records in step with the tables as others are put in.
use Rattle.std.proofs.Common.{◌≡◌, ◌⊎◌, inl, inr, ℕ, zero, suc, ◌≤◌, Bool, true, false, cond, ◌||◌, List, [], ◌∷◌, length, Some, refl, sym, ap, ap₂, ◌∙◌, subst, arith}
use Rattle.std.specs.Prelude.{◌&&◌, not, nat_eq, nat_le, slice_get}
use Rattle.std.proofs.lemmas.Bool.{le-leb}
use Rattle.std.proofs.lemmas.Bool.Decides.{Decides-eqb}
use Rattle.evaluation.specs.declared.note.Note.{Note}
use Rattle.meaning.specs.Every.{every}
use Rattle.meaning.specs.Tables.{Tables}
use Rattle.record_theory.specs.Record.{PlainRecord, as_made, same_instance}
use Rattle.record_theory.specs.Same.{same_note}
use Rattle.record_theory.specs.Validity.{note_agrees}
use Rattle.record_theory.specs.Counts.{has_lapsed, lapsed_count}
use Rattle.record_numbers.specs.Stale.{most_number}
use Rattle.record_theory.specs.Numbers.{is_counted}
use Rattle.record_theory.specs.InStep.{IsInStep, reads_agree, ReadNow}
use Rattle.record_theory.specs.Commits.{put_record}
use Rattle.record_theory.proofs.Counts.{count_none, none_counts}
use Rattle.record_theory.proofs.Members.{left_is, right_is, both}
use Rattle.record_theory.proofs.NumbersThen.{note_itself}
use Rattle.record_theory.proofs.Same.{note_is}
use Rattle.record_theory.proofs.Singles.{is_le}

pub both_decide : (a b : Bool) → (a ≡ true → b ≡ true) → (b ≡ true → a ≡ true) → a ≡ b
both_decide true b f g = sym (f refl)
both_decide false true f g = g refl
both_decide false false f g = refl

-- ---- numbers

-- what counts is what isn't held
not_lapsed : (tables : Tables) (notes : List Note) → every (λ n. not (has_lapsed tables n)) notes ≡ every (note_agrees tables) notes
not_lapsed tables [] = refl
not_lapsed tables (n ∷ ns) = ap₂ (λ a b. a && b) (twice (note_agrees tables n)) (not_lapsed tables ns)
  where
    twice : (b : Bool) → not (not b) ≡ b
    twice true = refl
    twice false = refl

none_lapsed : (tables : Tables) (notes : List Note) → nat_eq (lapsed_count tables notes) 0 ≡ every (note_agrees tables) notes
none_lapsed tables notes =
    both_decide (nat_eq (lapsed_count tables notes) 0) (every (note_agrees tables) notes)
    (λ e. sym (not_lapsed tables notes) ∙ count_none same_note note_is note_itself (has_lapsed tables) notes ((Decides-eqb (lapsed_count tables notes) 0).0 e))
    (λ e. (Decides-eqb (lapsed_count tables notes) 0).1 (none_counts same_note note_is note_itself (has_lapsed tables) notes (not_lapsed tables notes ∙ e)))

-- the number is right; only of a record with more readings than it can count it may be the greatest
abbrev pub IsNumber : Tables → List Note → ℕ → Type 0
IsNumber tables reads n = (n ≡ lapsed_count tables reads) ⊎ ((n ≡ most_number) × (most_number ≤ length reads))

either : (a b : Bool) → a || b ≡ true → (a ≡ true) ⊎ (b ≡ true)
either true b e = inl refl
either false b e = inr e

pub number_is : (tables : Tables) (r : PlainRecord) → is_counted tables r ≡ true → IsNumber tables r.reads r.stale
number_is tables r e =
    elim (either (nat_eq r.stale (lapsed_count tables r.reads)) (nat_eq r.stale most_number && nat_le most_number (length r.reads)) e) as (λ _. IsNumber tables r.reads r.stale) [
      | inl a ↦ inl ((Decides-eqb r.stale (lapsed_count tables r.reads)).0 a)
      | inr b ↦
          inr (
            (Decides-eqb r.stale most_number).0 (left_is (nat_eq r.stale most_number) (nat_le most_number (length r.reads)) b),
            is_le most_number (length r.reads) (right_is (nat_eq r.stale most_number) (nat_le most_number (length r.reads)) b),
          )
    ]

or_left : (a b : Bool) → a ≡ true → a || b ≡ true
or_left a b e = ap (λ x. x || b) e

or_right : (a b : Bool) → b ≡ true → a || b ≡ true
or_right true b e = refl
or_right false b e = e

pub is_number : (tables : Tables) (r : PlainRecord) → IsNumber tables r.reads r.stale → is_counted tables r ≡ true
is_number tables r (inl e) = or_left (nat_eq r.stale (lapsed_count tables r.reads)) (nat_eq r.stale most_number && nat_le most_number (length r.reads)) ((Decides-eqb r.stale (lapsed_count tables r.reads)).1 e)
is_number tables r (inr h) =
    or_right (nat_eq r.stale (lapsed_count tables r.reads)) (nat_eq r.stale most_number && nat_le most_number (length r.reads))
    (both (nat_eq r.stale most_number) (nat_le most_number (length r.reads)) ((Decides-eqb r.stale most_number).1 h.0) (le-leb most_number (length r.reads) h.1))

-- a number that isn't the greatest is 0 where the tables hold all that was read, and only there
pub number_agrees : (tables : Tables) (reads : List Note) (n : ℕ) → IsNumber tables reads n → (n ≡ most_number → ⊥) → nat_eq n 0 ≡ every (note_agrees tables) reads
number_agrees tables reads n (inl e) f = ap (λ k. nat_eq k 0) e ∙ none_lapsed tables reads
number_agrees tables reads n (inr h) f = absurd (f h.0)

-- where nothing is counted of a record, the tables hold all that it read
pub fresh_agrees : (tables : Tables) (r : PlainRecord) → is_counted tables r ≡ true → nat_eq r.stale 0 ≡ true → reads_agree tables r ≡ true
fresh_agrees tables r e f =
    let none : r.stale ≡ 0 = (Decides-eqb r.stale 0).0 f in
    sym (number_agrees tables r.reads r.stale (number_is tables r e) (λ most. absurd (omega (arith, most, none)))) ∙ f

-- ---- records put in

-- nothing is counted of a record that was just made, and the tables hold all that it read
made_counted : (tables : Tables) (r : PlainRecord) → as_made r ≡ r → reads_agree tables r ≡ true → is_counted tables r ≡ true
made_counted tables r made e =
    let none : r.stale ≡ 0 = ap (λ (x : PlainRecord). x.stale) (sym made) in
    is_number tables r (inl (none ∙ sym ((Decides-eqb (lapsed_count tables r.reads) 0).0 (none_lapsed tables r.reads ∙ e))))

every_put : (p : PlainRecord → Bool) (rs : List PlainRecord) (r : PlainRecord) → every p rs ≡ true → p r ≡ true → every p (put_record rs r) ≡ true
every_put p [] r e f = both (p r) true f refl
every_put p (s ∷ ss) r e f =
    elim (same_instance r s) as (λ b. every p (cond b (r ∷ ss) (s ∷ put_record ss r)) ≡ true) [
      | true ↦ both (p r) (every p ss) f (right_is (p s) (every p ss) e)
      | false ↦ both (p s) (every p (put_record ss r)) (left_is (p s) (every p ss) e) (every_put p ss r (right_is (p s) (every p ss) e) f)
    ]

pub put_in_step : (tables : Tables) (before now : List PlainRecord) (made : PlainRecord) → now ≡ put_record before made → as_made made ≡ made → IsInStep tables before → reads_agree tables made ≡ true → IsInStep tables now
put_in_step tables before now made e same h n = rw e (every_put (is_counted tables) before made h (made_counted tables made same n))

-- one of those that are put in, and the others
pub next_read : (tables : Tables) (rest all : List PlainRecord) (r : PlainRecord) → all ≡ r ∷ rest → ReadNow tables all → (reads_agree tables r ≡ true) × ReadNow tables rest
next_read tables rest all r e h =
    let whole : ReadNow tables (r ∷ rest) = subst (ReadNow tables) e h in
    (left_is (reads_agree tables r) (every (reads_agree tables) rest) whole, right_is (reads_agree tables r) (every (reads_agree tables) rest) whole)

pub counted_at : (tables : Tables) (rs : List PlainRecord) (p : ℕ) (r : PlainRecord) → IsInStep tables rs → slice_get rs p ≡ Some r → is_counted tables r ≡ true
counted_at tables [] p r h e = absurd cc
counted_at tables (x ∷ xs) zero r h e = let same : x ≡ r = cc (e) in subst (λ y. is_counted tables y ≡ true) same (left_is (is_counted tables x) (every (is_counted tables) xs) h)
counted_at tables (x ∷ xs) (suc p) r h e = counted_at tables xs p r (right_is (is_counted tables x) (every (is_counted tables) xs) h) e
