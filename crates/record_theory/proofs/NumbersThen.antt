-- The number of a record behind the change of a row that it hasn't read, or that it can't count.
use Rattle.std.proofs.Common.{◌≡◌, ℕ, suc, ◌+◌, ◌-◌, ◌≤◌, ℤ, Bool, true, false, true≢false, cond, not, min, List, [], ◌∷◌, ◌++◌, refl, sym, ap, ◌∙◌, arith}
use Rattle.std.specs.Prelude.{◌&&◌, nat_eq}
use Rattle.std.specs.Ordering.{int_eq}
use Rattle.std.proofs.lemmas.Bool.Decides.{Decides-eqb, Decides-int_eq}
use Rattle.meaning.specs.Every.{every}
use Rattle.evaluation.specs.declared.note.Note.{Note}
use Rattle.evaluation.specs.declared.note.Note.TheVariants.{Cell, Has, Limit, Sum}
use Rattle.record_theory.specs.InStep.{is_apart}
use Rattle.record_theory.specs.Counts.{is_among, how_many}
use Rattle.record_numbers.specs.Stale.{most_number, number_by}
use Rattle.record_theory.specs.Numbers.{number_then}
use Rattle.record_theory.specs.Same.{same_flag, same_note}
use Rattle.record_theory.proofs.Counts.{among_passes}
use Rattle.record_theory.proofs.Members.{left_is, right_is, both, every_append}
use Rattle.record_theory.proofs.Same.{note_is}

-- ---- a reading is the same as itself

number_itself : (n : ℕ) → nat_eq n n ≡ true
number_itself n = (Decides-eqb n n).1 refl

integer_itself : (n : ℤ) → int_eq n n ≡ true
integer_itself n = (Decides-int_eq n n).1 refl

flag_itself : (b : Bool) → same_flag b b ≡ true
flag_itself true = refl
flag_itself false = refl

pub note_itself : (n : Note) → same_note n n ≡ true
note_itself (Cell t row c v) =
    both (nat_eq t t) (int_eq row row && (nat_eq c c && int_eq v v)) (number_itself t)
    (both (int_eq row row) (nat_eq c c && int_eq v v) (integer_itself row) (both (nat_eq c c) (int_eq v v) (number_itself c) (integer_itself v)))
note_itself (Has t row b) =
    both (nat_eq t t) (int_eq row row && same_flag b b) (number_itself t) (both (int_eq row row) (same_flag b b) (integer_itself row) (flag_itself b))
note_itself (Limit t v) = both (nat_eq t t) (int_eq v v) (number_itself t) (integer_itself v)
note_itself (Sum t c v) =
    both (nat_eq t t) (nat_eq c c && int_eq v v) (number_itself t) (both (nat_eq c c) (int_eq v v) (number_itself c) (integer_itself v))

-- ---- readings of which none rests on the change

not_among : (q : Note → Bool) (reads : List Note) (y : Note) (b : Bool) → every q reads ≡ true → not (q y) ≡ true → is_among same_note reads y ≡ b → b ≡ false
not_among q reads y false e n m = refl
not_among q reads y true e n m = absurd (true≢false (sym n ∙ ap not (among_passes same_note note_is note_itself q reads y e m)))

pub apart_none : (change : ℕ × ℤ) (ys reads : List Note) → every (is_apart (change ∷ [])) reads ≡ true → every (λ n. not (is_apart (change ∷ []) n)) ys ≡ true
    → how_many same_note ys reads ≡ 0
apart_none change [] reads e r = refl
apart_none change (y ∷ ys) reads e r =
    ap (λ b. cond b (suc (how_many same_note ys reads)) (how_many same_note ys reads))
    (not_among (is_apart (change ∷ [])) reads y (is_among same_note reads y) e
    (left_is (not (is_apart (change ∷ []) y)) (every (λ n. not (is_apart (change ∷ []) n)) ys) r) refl)
    ∙ apart_none change ys reads e (right_is (not (is_apart (change ∷ []) y)) (every (λ n. not (is_apart (change ∷ []) n)) ys) r)

-- ---- one number

stays : (most n : ℕ) (b : Bool) → n ≤ most → nat_eq n most ≡ b → cond b most (min most ((n + 0) - 0)) ≡ n
stays most n true l e = sym ((Decides-eqb n most).0 e)
stays most n false l e = omega (arith, l)

pub number_stays : (n : ℕ) → n ≤ most_number → number_by n 0 0 ≡ n
number_stays n l = stays most_number n (nat_eq n most_number) l refl

-- where none of the readings rests on the change, and all that are lost or won do
pub untouched_stays : (change : ℕ × ℤ) (lost won reads : List Note) (n : ℕ) → every (λ y. not (is_apart (change ∷ []) y)) (lost ++ won) ≡ true
    → every (is_apart (change ∷ [])) reads ≡ true → n ≤ most_number → n ≡ number_then lost won n reads
untouched_stays change lost won reads n rest apart l =
    let each = sym (every_append (λ y. not (is_apart (change ∷ []) y)) lost won) ∙ rest in
    let none_lost = apart_none change lost reads apart
    (left_is (every (λ y. not (is_apart (change ∷ []) y)) lost) (every (λ y. not (is_apart (change ∷ []) y)) won) each) in
    let none_won = apart_none change won reads apart
    (right_is (every (λ y. not (is_apart (change ∷ []) y)) lost) (every (λ y. not (is_apart (change ∷ []) y)) won) each) in
    sym (ap (λ k. number_by n k (how_many same_note won reads)) none_lost ∙ ap (number_by n 0) none_won ∙ number_stays n l)
