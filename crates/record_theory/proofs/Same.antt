-- Readings that are found to be the same are equal.
use Rattle.std.proofs.Common.{◌≡◌, ℕ, ◌+◌, ℤ, Bool, true, false, true≢false, List, [], ◌∷◌, ◌++◌, refl, sym, ◌∙◌, ap}
use Rattle.std.specs.Prelude.{◌&&◌, ◌||◌, nat_eq}
use Rattle.std.specs.Ordering.{int_eq}
use Rattle.std.proofs.lemmas.Bool.Decides.{Decides-eqb, Decides-int_eq}
use Rattle.evaluation.specs.declared.note.Note.{Note}
use Rattle.evaluation.specs.declared.note.Note.TheVariants.{Cell, Has, Limit, Sum}
use Rattle.evaluation.specs.contracts.note.NotePartialEq.TheImpl as notes
use Rattle.record_theory.specs.Same.{same_flag, same_note, is_read}

-- ---- tests that hold

pub first_is : (a b : Bool) → (a && b) ≡ true → a ≡ true
first_is true b e = refl
first_is false b e = absurd (true≢false (sym e))

pub second_is : (a b : Bool) → (a && b) ≡ true → b ≡ true
second_is true b e = e
second_is false b e = absurd (true≢false (sym e))

pub number_is : (a b : ℕ) → nat_eq a b ≡ true → a ≡ b
number_is a b = (Decides-eqb a b).0

pub integer_is : (a b : ℤ) → int_eq a b ≡ true → a ≡ b
integer_is a b = (Decides-int_eq a b).0

-- ---- readings

flag_is : (a b : Bool) → same_flag a b ≡ true → a ≡ b
flag_is true b e = sym e
flag_is false true e = absurd (true≢false (sym e))
flag_is false false e = refl

cell_is : (t u c d : ℕ) (row s v w : ℤ) → t ≡ u → row ≡ s → c ≡ d → v ≡ w → Cell t row c v ≡ Cell u s d w
cell_is t u c d row s v w e f g h = ap (λ x. Cell x row c v) e ∙ ap (λ x. Cell u x c v) f ∙ ap (λ x. Cell u s x v) g ∙ ap (λ x. Cell u s d x) h

pub note_is : (a b : Note) → same_note a b ≡ true → a ≡ b
note_is (Cell t row c v) (Cell u s d w) e =
    let rest = second_is (nat_eq t u) (int_eq row s && (nat_eq c d && int_eq v w)) e in
    let last = second_is (int_eq row s) (nat_eq c d && int_eq v w) rest in
    cell_is t u c d row s v w (number_is t u (first_is (nat_eq t u) (int_eq row s && (nat_eq c d && int_eq v w)) e)) (integer_is row s (first_is (int_eq row s) (nat_eq c d && int_eq v w) rest))
    (number_is c d (first_is (nat_eq c d) (int_eq v w) last)) (integer_is v w (second_is (nat_eq c d) (int_eq v w) last))
note_is (Cell t row c v) (Has u s d) e = absurd (true≢false (sym e))
note_is (Cell t row c v) (Limit u w) e = absurd (true≢false (sym e))
note_is (Cell t row c v) (Sum u d w) e = absurd (true≢false (sym e))
note_is (Has t row b) (Cell u s d w) e = absurd (true≢false (sym e))
note_is (Has t row b) (Has u s d) e =
    let rest = second_is (nat_eq t u) (int_eq row s && same_flag b d) e in
    ap (λ x. Has x row b) (number_is t u (first_is (nat_eq t u) (int_eq row s && same_flag b d) e))
    ∙ ap (λ x. Has u x b) (integer_is row s (first_is (int_eq row s) (same_flag b d) rest))
    ∙ ap (λ x. Has u s x) (flag_is b d (second_is (int_eq row s) (same_flag b d) rest))
note_is (Has t row b) (Limit u w) e = absurd (true≢false (sym e))
note_is (Has t row b) (Sum u d w) e = absurd (true≢false (sym e))
note_is (Limit t v) (Cell u s d w) e = absurd (true≢false (sym e))
note_is (Limit t v) (Has u s d) e = absurd (true≢false (sym e))
note_is (Limit t v) (Limit u w) e =
    ap (λ x. Limit x v) (number_is t u (first_is (nat_eq t u) (int_eq v w) e)) ∙ ap (λ x. Limit u x) (integer_is v w (second_is (nat_eq t u) (int_eq v w) e))
note_is (Limit t v) (Sum u d w) e = absurd (true≢false (sym e))
note_is (Sum t c v) (Cell u s d w) e = absurd (true≢false (sym e))
note_is (Sum t c v) (Has u s d) e = absurd (true≢false (sym e))
note_is (Sum t c v) (Limit u w) e = absurd (true≢false (sym e))
note_is (Sum t c v) (Sum u d w) e =
    let rest = second_is (nat_eq t u) (nat_eq c d && int_eq v w) e in
    ap (λ x. Sum x c v) (number_is t u (first_is (nat_eq t u) (nat_eq c d && int_eq v w) e))
    ∙ ap (λ x. Sum u x v) (number_is c d (first_is (nat_eq c d) (int_eq v w) rest))
    ∙ ap (λ x. Sum u d x) (integer_is v w (second_is (nat_eq c d) (int_eq v w) rest))

-- readings are compared part by part
pub derived_same : (a b : Note) → (notes.ghosts).eq a b ≡ same_note a b
derived_same (Cell t row c v) (Cell u s d w) = refl
derived_same (Cell t row c v) (Has u s d) = refl
derived_same (Cell t row c v) (Limit u w) = refl
derived_same (Cell t row c v) (Sum u d w) = refl
derived_same (Has t row true) (Has u s true) = refl
derived_same (Has t row true) (Has u s false) = refl
derived_same (Has t row false) (Has u s true) = refl
derived_same (Has t row false) (Has u s false) = refl
derived_same (Has t row b) (Cell u s d w) = refl
derived_same (Has t row b) (Limit u w) = refl
derived_same (Has t row b) (Sum u d w) = refl
derived_same (Limit t v) (Limit u w) = refl
derived_same (Limit t v) (Cell u s d w) = refl
derived_same (Limit t v) (Has u s d) = refl
derived_same (Limit t v) (Sum u d w) = refl
derived_same (Sum t c v) (Sum u d w) = refl
derived_same (Sum t c v) (Cell u s d w) = refl
derived_same (Sum t c v) (Has u s d) = refl
derived_same (Sum t c v) (Limit u w) = refl

-- ---- among readings one behind the other

pub read_append : (xs ys : List Note) (note : Note) → is_read (xs ++ ys) note ≡ (is_read xs note || is_read ys note)
read_append [] ys note = refl
read_append (x ∷ xs) ys note =
    elim (same_note note x) as (λ b. (b || is_read (xs ++ ys) note) ≡ ((b || is_read xs note) || is_read ys note)) [
      | true ↦ refl
      | false ↦ read_append xs ys note
    ]
