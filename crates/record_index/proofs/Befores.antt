-- Which readings of a row and of its table's totals hold at one time and not at another.
use Rattle.std.proofs.Common.{◌≡◌, ℕ, zero, suc, ◌+◌, ◌<◌, ◌≤◌, ℤ, pos, Bool, true, false, true≢false, cond, not, ne_eqb, List, [], ◌∷◌, ◌++◌, length, Option, Some, None, refl, sym, ap, ap₂, ◌∙◌, arith}
use Rattle.std.specs.Prelude.{◌&&◌, ◌||◌, nat_eq, slice_get}
use Rattle.std.specs.List.{list_any, AllByRecursion, IsDistinct}
use Rattle.std.specs.Ordering.{int_eq}
use Rattle.std.proofs.lemmas.Bool.Decides.{Decides-eqb, Decides-int_eq}
use Rattle.std.proofs.lemmas.List.Folds.{list_any-append}
use Rattle.meaning.specs.Every.{every}
use Rattle.meaning.specs.Records.{same_number, same_bool}
use Rattle.meaning.specs.Tables.{Tables, row_of, at_column, is_there}
use Rattle.input_tables.specs.Befores.{PlainBefore, total_at}
use Rattle.input_tables.specs.Edited.{IsBefore, rows_at, limit_at, sum_at}
use Rattle.evaluation.specs.declared.note.Note.{Note}
use Rattle.evaluation.specs.declared.note.Note.TheVariants.{Cell, Has, Limit, Sum}
use Rattle.record_theory.specs.Same.{same_flag, same_note}
use Rattle.record_theory.specs.Validity.{note_agrees}
use Rattle.record_theory.specs.InStep.{rests_on, IsSameBut, is_apart}
use Rattle.record_theory.specs.Counts.{is_among}
use Rattle.record_theory.proofs.Members.{left_is, right_is}
use Rattle.record_index.specs.Befores.{cells_only, row_only, presence_only, limit_only, sums_only, held_only}

-- ---- tests

both_true : (a b : Bool) → a ≡ true → b ≡ true → a && b ≡ true
both_true true b e f = f
both_true false b e f = absurd (true≢false (sym e))

first_no : (a b : Bool) → a || b ≡ false → a ≡ false
first_no true b e = e
first_no false b e = refl

second_no : (a b : Bool) → a || b ≡ false → b ≡ false
second_no true b e = absurd (true≢false e)
second_no false b e = e

or_no : (a : Bool) → a || false ≡ a
or_no true = refl
or_no false = refl

-- what stays isn't lost
stays : (a b : Bool) → b ≡ a → false ≡ (a && not b)
stays true b e = ap not (sym e)
stays false b e = refl

-- of four parts all but one have nothing
first_of : (a b c d : Bool) → b ≡ false → c ≡ false → d ≡ false → (a || (b || (c || d))) ≡ a
first_of a b c d e f g = ap₂ (λ x y. a || (x || (y || d))) e f ∙ ap (λ x. a || x) g ∙ or_no a

second_of : (a b c d : Bool) → a ≡ false → c ≡ false → d ≡ false → (a || (b || (c || d))) ≡ b
second_of a b c d e f g = ap₂ (λ x y. x || (b || (y || d))) e f ∙ ap (λ x. b || x) g ∙ or_no b

third_of : (a b c d : Bool) → a ≡ false → b ≡ false → d ≡ false → (a || (b || (c || d))) ≡ c
third_of a b c d e f g = ap₂ (λ x y. x || (y || (c || d))) e f ∙ ap (λ x. c || x) g ∙ or_no c

fourth_of : (a b c d : Bool) → a ≡ false → b ≡ false → c ≡ false → (a || (b || (c || d))) ≡ d
fourth_of a b c d e f g = ap₂ (λ x y. x || (y || (c || d))) e f ∙ ap (λ x. x || d) g

none_of : (a b c d : Bool) → a ≡ false → b ≡ false → c ≡ false → d ≡ false → (a || (b || (c || d))) ≡ false
none_of a b c d e f g h = fourth_of a b c d e f g ∙ h

apart : (x y z : Bool) → x && y ≡ false → x && (y && z) ≡ false
apart true y z e = ap (λ b. b && z) e
apart false y z e = refl

same_numbers : (t : ℕ) → nat_eq t t ≡ true
same_numbers t = (Decides-eqb t t).1 refl

same_integers : (v : ℤ) → int_eq v v ≡ true
same_integers v = (Decides-int_eq v v).1 refl

turned : (v w : ℤ) → int_eq v w ≡ int_eq w v
turned v w = by (int_eq w v) refl
  where
    by : (s : Bool) → int_eq w v ≡ s → int_eq v w ≡ s
    by true e = (Decides-int_eq v w).1 (sym ((Decides-int_eq w v).0 e))
    by false e = by_other (int_eq v w) refl
      where
        by_other : (s : Bool) → int_eq v w ≡ s → s ≡ false
        by_other true f = absurd (true≢false (sym ((Decides-int_eq w v).1 (sym ((Decides-int_eq v w).0 f))) ∙ e))
        by_other false f = refl

-- ---- lists of readings

any_cond : (p : Note → Bool) (s : Bool) (x : Note) (xs : List Note) → list_any p (cond s xs (x ∷ xs)) ≡ cond s (list_any p xs) (p x || list_any p xs)
any_cond p true x xs = refl
any_cond p false x xs = refl

neither : (s a b : Bool) → a ≡ false → b ≡ false → cond s b (a || b) ≡ false
neither true a b e f = f
neither false a b e f = ap (λ x. x || b) e ∙ f

-- the head isn't asked for
passed : (s a b : Bool) → a ≡ false → cond s b (a || b) ≡ b
passed true a b e = refl
passed false a b e = ap (λ x. x || b) e

-- the head is asked for by its value, and nothing else is: it is there where the other side hasn't that value
asked : (s a p r : Bool) → a ≡ p → (p ≡ true → r ≡ s) → cond s false (a || false) ≡ (p && not r)
asked true a true r e h = ap not (sym (h refl))
asked false a true r e h = or_no a ∙ e ∙ ap not (sym (h refl))
asked true a false r e h = refl
asked false a false r e h = or_no a ∙ e

parts : (p : Note → Bool) (ws xs ys zs : List Note) → list_any p (ws ++ (xs ++ (ys ++ zs))) ≡ (list_any p ws || (list_any p xs || (list_any p ys || list_any p zs)))
parts p ws xs ys zs =
    list_any-append p ws (xs ++ (ys ++ zs))
    ∙ ap (λ b. list_any p ws || b) (list_any-append p xs (ys ++ zs) ∙ ap (λ b. list_any p xs || b) (list_any-append p ys zs))

every_of_none : (q : Note → Bool) (xs : List Note) → list_any (λ n. not (q n)) xs ≡ false → every q xs ≡ true
every_of_none q [] e = refl
every_of_none q (x ∷ xs) e = both_true (q x) (every q xs) (passes (q x) (first_no (not (q x)) (list_any (λ n. not (q n)) xs) e)) (every_of_none q xs (second_no (not (q x)) (list_any (λ n. not (q n)) xs) e))
  where
    passes : (b : Bool) → not b ≡ false → b ≡ true
    passes true f = refl
    passes false f = absurd (true≢false f)

-- ---- none of the readings of a row passes a test

module _ (p : Note → Bool) (t : ℕ) where
  module _ (row : ℤ) where
    no_cell : ((c : ℕ) (v : ℤ) → p (Cell t row c v) ≡ false) → (d : ℕ) (vs : List ℤ) (other : Option (List ℤ)) → list_any p (cells_only t row d vs other) ≡ false
    no_cell h d [] other = refl
    no_cell h d (w ∷ vs) other =
        any_cond p (same_number (at_column other d) w) (Cell t row d w) (cells_only t row (suc d) vs other)
        ∙ neither (same_number (at_column other d) w) (p (Cell t row d w)) (list_any p (cells_only t row (suc d) vs other)) (h d w) (no_cell h (suc d) vs other)

    no_row_cell : ((c : ℕ) (v : ℤ) → p (Cell t row c v) ≡ false) → (values other : Option (List ℤ)) → list_any p (row_only t row values other) ≡ false
    no_row_cell h None other = refl
    no_row_cell h (Some vs) other = no_cell h 0 vs other

    no_presence : ((f : Bool) → p (Has t row f) ≡ false) → (a b : Bool) → list_any p (presence_only t row a b) ≡ false
    no_presence h a b = any_cond p (same_flag a b) (Has t row a) [] ∙ neither (same_flag a b) (p (Has t row a)) false (h a) refl

  no_limit : ((v : ℤ) → p (Limit t v) ≡ false) → (a b : ℤ) → list_any p (limit_only t a b) ≡ false
  no_limit h a b = any_cond p (int_eq a b) (Limit t a) [] ∙ neither (int_eq a b) (p (Limit t a)) false (h a) refl

  no_sum : ((c : ℕ) (v : ℤ) → p (Sum t c v) ≡ false) → (d : ℕ) (vs others : List ℤ) → list_any p (sums_only t d vs others) ≡ false
  no_sum h d [] others = refl
  no_sum h d (w ∷ vs) others =
      any_cond p (int_eq w (total_at others d)) (Sum t d w) (sums_only t (suc d) vs others)
      ∙ neither (int_eq w (total_at others d)) (p (Sum t d w)) (list_any p (sums_only t (suc d) vs others)) (h d w) (no_sum h (suc d) vs others)

module _ (p : Note → Bool) (a b : PlainBefore) where
  -- a test of any reading is asked of each part
  held_parts : list_any p (held_only a b)
      ≡ (list_any p (row_only a.table a.row a.values b.values) || (list_any p (presence_only a.table a.row (is_there a.values) (is_there b.values))
      || (list_any p (limit_only a.table a.limit b.limit) || list_any p (sums_only a.table 0 a.sums b.sums))))
  held_parts =
      parts p (row_only a.table a.row a.values b.values) (presence_only a.table a.row (is_there a.values) (is_there b.values))
      (limit_only a.table a.limit b.limit) (sums_only a.table 0 a.sums b.sums)

  held_none : ((c : ℕ) (v : ℤ) → p (Cell a.table a.row c v) ≡ false) → ((f : Bool) → p (Has a.table a.row f) ≡ false) → ((v : ℤ) → p (Limit a.table v) ≡ false)
      → ((c : ℕ) (v : ℤ) → p (Sum a.table c v) ≡ false) → list_any p (held_only a b) ≡ false
  held_none cell has limit sum =
      held_parts ∙ none_of _ _ _ _ (no_row_cell p a.table a.row cell a.values b.values) (no_presence p a.table a.row has (is_there a.values) (is_there b.values))
      (no_limit p a.table limit a.limit b.limit) (no_sum p a.table sum 0 a.sums b.sums)

-- ---- each rests on the row

pub held_rests : (a b : PlainBefore) → every (λ n. not (is_apart ((a.table, a.row) ∷ []) n)) (held_only a b) ≡ true
held_rests a b =
    every_of_none (λ n. not (is_apart ((a.table, a.row) ∷ []) n)) (held_only a b)
    (held_none (λ n. not (not (is_apart ((a.table, a.row) ∷ []) n))) a b (λ c v. of_row) (λ f. of_row) (λ v. of_table) (λ c v. of_table))
  where
    of_row : not (not (not ((nat_eq a.table a.table && int_eq a.row a.row) || false))) ≡ false
    of_row = ap₂ (λ x y. not (not (not ((x && y) || false)))) (same_numbers a.table) (same_integers a.row)

    of_table : not (not (not (nat_eq a.table a.table || false))) ≡ false
    of_table = ap (λ x. not (not (not (x || false)))) (same_numbers a.table)

-- ---- readings of a column

module _ (t : ℕ) (row : ℤ) where
  cell_beside : (c d : ℕ) (v w : ℤ) → same_note (Cell t row c v) (Cell t row d w) ≡ (nat_eq c d && int_eq v w)
  cell_beside c d v w = ap₂ (λ x y. x && (y && (nat_eq c d && int_eq v w))) (same_numbers t) (same_integers row)

  other_cell : (c d : ℕ) (v w : ℤ) → (c ≡ d → ⊥) → same_note (Cell t row c v) (Cell t row d w) ≡ false
  other_cell c d v w n = cell_beside c d v w ∙ ap (λ b. b && int_eq v w) (ne_eqb c d n)

  cell_there : (c d : ℕ) (v w : ℤ) → c ≡ d → same_note (Cell t row c v) (Cell t row d w) ≡ int_eq w v
  cell_there c d v w e = cell_beside c d v w ∙ ap (λ b. b && int_eq v w) ((Decides-eqb c d).1 e) ∙ turned v w

  cells_behind : (d c : ℕ) (v : ℤ) (vs : List ℤ) (other : Option (List ℤ)) → c < d → is_among same_note (cells_only t row d vs other) (Cell t row c v) ≡ false
  cells_behind d c v [] other l = refl
  cells_behind d c v (w ∷ vs) other l =
      any_cond (same_note (Cell t row c v)) (same_number (at_column other d) w) (Cell t row d w) (cells_only t row (suc d) vs other)
      ∙ neither (same_number (at_column other d) w) (same_note (Cell t row c v) (Cell t row d w)) (is_among same_note (cells_only t row (suc d) vs other) (Cell t row c v))
      (other_cell c d v w (λ e. omega (arith, e, l))) (cells_behind (suc d) c v vs other (omega (arith, l)))

  -- a cell is one of those from column d on where it is the value in its column, and the other row hasn't it
  cells_are : (d k c : ℕ) (v : ℤ) (vs : List ℤ) (other : Option (List ℤ)) → c ≡ d + k
      → is_among same_note (cells_only t row d vs other) (Cell t row c v) ≡ (same_number (slice_get vs k) v && not (same_number (at_column other c) v))
  cells_are d k c v [] other e = refl
  cells_are d zero c v (w ∷ vs) other e =
      let here : c ≡ d = omega (arith, e) in
      any_cond (same_note (Cell t row c v)) (same_number (at_column other d) w) (Cell t row d w) (cells_only t row (suc d) vs other)
      ∙ ap (λ b. cond (same_number (at_column other d) w) b (same_note (Cell t row c v) (Cell t row d w) || b)) (cells_behind (suc d) c v vs other (omega (arith, e)))
      ∙ asked (same_number (at_column other d) w) (same_note (Cell t row c v) (Cell t row d w)) (int_eq w v) (same_number (at_column other c) v) (cell_there c d v w here)
      (λ f. ap₂ (λ i x. same_number (at_column other i) x) here (sym ((Decides-int_eq w v).0 f)))
  cells_are d (suc k) c v (w ∷ vs) other e =
      any_cond (same_note (Cell t row c v)) (same_number (at_column other d) w) (Cell t row d w) (cells_only t row (suc d) vs other)
      ∙ passed (same_number (at_column other d) w) (same_note (Cell t row c v) (Cell t row d w)) (is_among same_note (cells_only t row (suc d) vs other) (Cell t row c v))
      (other_cell c d v w (λ f. omega (arith, e, f)))
      ∙ cells_are (suc d) k c v vs other (omega (arith, e))

  row_is : (values other : Option (List ℤ)) (c : ℕ) (v : ℤ)
      → is_among same_note (row_only t row values other) (Cell t row c v) ≡ (same_number (at_column values c) v && not (same_number (at_column other c) v))
  row_is None other c v = refl
  row_is (Some vs) other c v = cells_are 0 c c v vs other (omega arith)

  has_beside : (f g : Bool) → same_note (Has t row f) (Has t row g) ≡ same_flag f g
  has_beside f g = ap₂ (λ x y. x && (y && same_flag f g)) (same_numbers t) (same_integers row)

  presence_is : (a b f : Bool) → is_among same_note (presence_only t row a b) (Has t row f) ≡ (same_bool a f && not (same_bool b f))
  presence_is true true true = refl
  presence_is true true false = refl
  presence_is false false true = refl
  presence_is false false false = refl
  presence_is true false true = ap (λ x. x || false) (has_beside true true)
  presence_is true false false = ap (λ x. x || false) (has_beside false true)
  presence_is false true true = ap (λ x. x || false) (has_beside true false)
  presence_is false true false = ap (λ x. x || false) (has_beside false false)

module _ (t : ℕ) where
  limit_is : (a b v : ℤ) → is_among same_note (limit_only t a b) (Limit t v) ≡ (int_eq a v && not (int_eq b v))
  limit_is a b v =
      any_cond (same_note (Limit t v)) (int_eq a b) (Limit t a) []
      ∙ asked (int_eq a b) (same_note (Limit t v) (Limit t a)) (int_eq a v) (int_eq b v) (ap (λ x. x && int_eq v a) (same_numbers t) ∙ turned v a)
      (λ e. turned b v ∙ ap (λ x. int_eq x b) (sym ((Decides-int_eq a v).0 e)))

  sum_beside : (c d : ℕ) (v w : ℤ) → same_note (Sum t c v) (Sum t d w) ≡ (nat_eq c d && int_eq v w)
  sum_beside c d v w = ap (λ x. x && (nat_eq c d && int_eq v w)) (same_numbers t)

  other_sum : (c d : ℕ) (v w : ℤ) → (c ≡ d → ⊥) → same_note (Sum t c v) (Sum t d w) ≡ false
  other_sum c d v w n = sum_beside c d v w ∙ ap (λ b. b && int_eq v w) (ne_eqb c d n)

  sum_there : (c d : ℕ) (v w : ℤ) → c ≡ d → same_note (Sum t c v) (Sum t d w) ≡ int_eq w v
  sum_there c d v w e = sum_beside c d v w ∙ ap (λ b. b && int_eq v w) ((Decides-eqb c d).1 e) ∙ turned v w

  sums_behind : (d c : ℕ) (v : ℤ) (vs others : List ℤ) → c < d → is_among same_note (sums_only t d vs others) (Sum t c v) ≡ false
  sums_behind d c v [] others l = refl
  sums_behind d c v (w ∷ vs) others l =
      any_cond (same_note (Sum t c v)) (int_eq w (total_at others d)) (Sum t d w) (sums_only t (suc d) vs others)
      ∙ neither (int_eq w (total_at others d)) (same_note (Sum t c v) (Sum t d w)) (is_among same_note (sums_only t (suc d) vs others) (Sum t c v))
      (other_sum c d v w (λ e. omega (arith, e, l))) (sums_behind (suc d) c v vs others (omega (arith, l)))

  -- a sum is one of those from column d on where it is that of its column and the other isn't; beyond the last both are 0
  sums_are : (d k c : ℕ) (v : ℤ) (vs others : List ℤ) → c ≡ d + k → (length vs ≤ k → total_at others c ≡ pos 0)
      → is_among same_note (sums_only t d vs others) (Sum t c v) ≡ (int_eq (total_at vs k) v && not (int_eq (total_at others c) v))
  sums_are d k c v [] others e beyond = stays (int_eq (pos 0) v) (int_eq (total_at others c) v) (ap (λ x. int_eq x v) (beyond (omega arith)))
  sums_are d zero c v (w ∷ vs) others e beyond =
      let here : c ≡ d = omega (arith, e) in
      any_cond (same_note (Sum t c v)) (int_eq w (total_at others d)) (Sum t d w) (sums_only t (suc d) vs others)
      ∙ ap (λ b. cond (int_eq w (total_at others d)) b (same_note (Sum t c v) (Sum t d w) || b)) (sums_behind (suc d) c v vs others (omega (arith, e)))
      ∙ asked (int_eq w (total_at others d)) (same_note (Sum t c v) (Sum t d w)) (int_eq w v) (int_eq (total_at others c) v) (sum_there c d v w here)
      (λ f. turned (total_at others c) v ∙ ap₂ (λ x i. int_eq x (total_at others i)) (sym ((Decides-int_eq w v).0 f)) here)
  sums_are d (suc k) c v (w ∷ vs) others e beyond =
      any_cond (same_note (Sum t c v)) (int_eq w (total_at others d)) (Sum t d w) (sums_only t (suc d) vs others)
      ∙ passed (int_eq w (total_at others d)) (same_note (Sum t c v) (Sum t d w)) (is_among same_note (sums_only t (suc d) vs others) (Sum t c v))
      (other_sum c d v w (λ f. omega (arith, e, f)))
      ∙ sums_are (suc d) k c v vs others (omega (arith, e)) (λ l. beyond (omega (arith, l)))

no_total : (vs : List ℤ) (c : ℕ) → length vs ≤ c → total_at vs c ≡ pos 0
no_total [] c l = refl
no_total (v ∷ vs) zero l = absurd (omega (arith, l))
no_total (v ∷ vs) (suc c) l = no_total vs c (omega (arith, l))

-- ---- what is said of a reading

-- a reading of the row and its table's totals is so
abbrev says : PlainBefore → Note → Bool
says a (Cell t row c v) = same_number (at_column a.values c) v
says a (Has t row f) = same_bool (is_there a.values) f
says a (Limit t v) = int_eq a.limit v
says a (Sum t c v) = int_eq (total_at a.sums c) v

-- the row of these numbers
at_row : (a : PlainBefore) (t : ℕ) (r : ℤ) → nat_eq t a.table && int_eq r a.row ≡ true → (t ≡ a.table) × (r ≡ a.row)
at_row a t r e = ((Decides-eqb t a.table).0 (left_is (nat_eq t a.table) (int_eq r a.row) e), (Decides-int_eq r a.row).0 (right_is (nat_eq t a.table) (int_eq r a.row) e))

same_row : (tables : Tables) (a : PlainBefore) → IsBefore tables a → (t : ℕ) (r : ℤ) → nat_eq t a.table && int_eq r a.row ≡ true → row_of (rows_at tables t) r ≡ a.values
same_row tables a h t r e = ap₂ (λ u s. row_of (rows_at tables u) s) (at_row a t r e).0 (at_row a t r e).1 ∙ h.values_are

-- so is it in the tables that have the row so
tells : (tables : Tables) (a : PlainBefore) → IsBefore tables a → (n : Note) → rests_on n (a.table, a.row) ≡ true → note_agrees tables n ≡ says a n
tells tables a h (Cell t r c v) e = ap (λ o. same_number (at_column o c) v) (same_row tables a h t r e)
tells tables a h (Has t r f) e = ap (λ o. same_bool (is_there o) f) (same_row tables a h t r e)
tells tables a h (Limit t v) e = ap (λ z. int_eq z v) (ap (limit_at tables) ((Decides-eqb t a.table).0 e) ∙ h.limit_is)
tells tables a h (Sum t c v) e = ap (λ z. int_eq z v) (ap (λ u. sum_at tables u c) ((Decides-eqb t a.table).0 e) ∙ h.sums_are c)

module _ (a b : PlainBefore) where
  cell_here : (c : ℕ) (v : ℤ) → is_among same_note (held_only a b) (Cell a.table a.row c v) ≡ (same_number (at_column a.values c) v && not (same_number (at_column b.values c) v))
  cell_here c v =
      held_parts (same_note (Cell a.table a.row c v)) a b
      ∙ first_of _ _ _ _ (no_presence (same_note (Cell a.table a.row c v)) a.table a.row (λ f. refl) (is_there a.values) (is_there b.values))
      (no_limit (same_note (Cell a.table a.row c v)) a.table (λ w. refl) a.limit b.limit) (no_sum (same_note (Cell a.table a.row c v)) a.table (λ d w. refl) 0 a.sums b.sums)
      ∙ row_is a.table a.row a.values b.values c v

  has_here : (f : Bool) → is_among same_note (held_only a b) (Has a.table a.row f) ≡ (same_bool (is_there a.values) f && not (same_bool (is_there b.values) f))
  has_here f =
      held_parts (same_note (Has a.table a.row f)) a b
      ∙ second_of _ _ _ _ (no_row_cell (same_note (Has a.table a.row f)) a.table a.row (λ c v. refl) a.values b.values)
      (no_limit (same_note (Has a.table a.row f)) a.table (λ w. refl) a.limit b.limit) (no_sum (same_note (Has a.table a.row f)) a.table (λ d w. refl) 0 a.sums b.sums)
      ∙ presence_is a.table a.row (is_there a.values) (is_there b.values) f

  limit_here : (v : ℤ) → is_among same_note (held_only a b) (Limit a.table v) ≡ (int_eq a.limit v && not (int_eq b.limit v))
  limit_here v =
      held_parts (same_note (Limit a.table v)) a b
      ∙ third_of _ _ _ _ (no_row_cell (same_note (Limit a.table v)) a.table a.row (λ c w. refl) a.values b.values)
      (no_presence (same_note (Limit a.table v)) a.table a.row (λ f. refl) (is_there a.values) (is_there b.values)) (no_sum (same_note (Limit a.table v)) a.table (λ d w. refl) 0 a.sums b.sums)
      ∙ limit_is a.table a.limit b.limit v

  sum_here : length a.sums ≡ length b.sums → (c : ℕ) (v : ℤ) → is_among same_note (held_only a b) (Sum a.table c v) ≡ (int_eq (total_at a.sums c) v && not (int_eq (total_at b.sums c) v))
  sum_here wide c v =
      held_parts (same_note (Sum a.table c v)) a b
      ∙ fourth_of _ _ _ _ (no_row_cell (same_note (Sum a.table c v)) a.table a.row (λ d w. refl) a.values b.values)
      (no_presence (same_note (Sum a.table c v)) a.table a.row (λ f. refl) (is_there a.values) (is_there b.values)) (no_limit (same_note (Sum a.table c v)) a.table (λ w. refl) a.limit b.limit)
      ∙ sums_are a.table 0 c c v a.sums b.sums (omega arith) (λ l. no_total b.sums c (omega (arith, l, wide)))

  held_here : length a.sums ≡ length b.sums → (n : Note) → rests_on n (a.table, a.row) ≡ true → is_among same_note (held_only a b) n ≡ (says a n && not (says b n))
  held_here wide (Cell t r c v) e = ap₂ (λ u s. is_among same_note (held_only a b) (Cell u s c v)) (at_row a t r e).0 (at_row a t r e).1 ∙ cell_here c v
  held_here wide (Has t r f) e = ap₂ (λ u s. is_among same_note (held_only a b) (Has u s f)) (at_row a t r e).0 (at_row a t r e).1 ∙ has_here f
  held_here wide (Limit t v) e = ap (λ u. is_among same_note (held_only a b) (Limit u v)) ((Decides-eqb t a.table).0 e) ∙ limit_here v
  held_here wide (Sum t c v) e = ap (λ u. is_among same_note (held_only a b) (Sum u c v)) ((Decides-eqb t a.table).0 e) ∙ sum_here wide c v

  -- a reading of another row or table is none of them
  held_elsewhere : (n : Note) → rests_on n (a.table, a.row) ≡ false → is_among same_note (held_only a b) n ≡ false
  held_elsewhere (Cell t r c v) e =
      held_none (same_note (Cell t r c v)) a b (λ d w. apart (nat_eq t a.table) (int_eq r a.row) (nat_eq c d && int_eq v w) e) (λ f. refl) (λ w. refl) (λ d w. refl)
  held_elsewhere (Has t r f) e = held_none (same_note (Has t r f)) a b (λ d w. refl) (λ g. apart (nat_eq t a.table) (int_eq r a.row) (same_flag f g) e) (λ w. refl) (λ d w. refl)
  held_elsewhere (Limit t v) e = held_none (same_note (Limit t v)) a b (λ d w. refl) (λ f. refl) (λ w. ap (λ x. x && int_eq v w) e) (λ d w. refl)
  held_elsewhere (Sum t c v) e = held_none (same_note (Sum t c v)) a b (λ d w. refl) (λ f. refl) (λ w. refl) (λ d w. ap (λ x. x && (nat_eq c d && int_eq v w)) e)

agrees_still : (table : ℕ) (row : ℤ) (before now : Tables) → IsSameBut table row before now → (n : Note) → rests_on n (table, row) ≡ false → note_agrees now n ≡ note_agrees before n
agrees_still table row before now h (Cell t r c v) e = ap (λ o. same_number o v) (h.cells t r c e)
agrees_still table row before now h (Has t r f) e = ap (λ b. same_bool b f) (h.there t r e)
agrees_still table row before now h (Limit t v) e = ap (λ z. int_eq z v) (h.limits t e)
agrees_still table row before now h (Sum t c v) e = ap (λ z. int_eq z v) (h.sums t c e)

-- a reading is one of these where it held before and doesn't now
pub held_is : (a b : PlainBefore) (before now : Tables) → IsBefore before a → IsBefore now b → a.table ≡ b.table → a.row ≡ b.row → length a.sums ≡ length b.sums
    → IsSameBut a.table a.row before now → (n : Note) → is_among same_note (held_only a b) n ≡ (note_agrees before n && not (note_agrees now n))
held_is a b before now was is table row wide same n =
    elim (rests_on n (a.table, a.row)) as (λ r. rests_on n (a.table, a.row) ≡ r → is_among same_note (held_only a b) n ≡ (note_agrees before n && not (note_agrees now n))) [
      | true ↦ λ e. held_here a b wide n e
          ∙ ap₂ (λ x y. x && not y) (sym (tells before a was n e)) (sym (tells now b is n (ap₂ (λ t r. rests_on n (t, r)) (sym table) (sym row) ∙ e)))
      | false ↦ λ e. held_elsewhere a b n e ∙ stays (note_agrees before n) (note_agrees now n) (agrees_still a.table a.row before now same n e)
    ] refl

-- the other way round
pub same_but_back : (table : ℕ) (row : ℤ) (before now : Tables) → IsSameBut table row before now → IsSameBut table row now before
same_but_back table row before now h = record {
  cells = λ t r c e. sym (h.cells t r c e);
  there = λ t r e. sym (h.there t r e);
  limits = λ t e. sym (h.limits t e);
  sums = λ t c e. sym (h.sums t c e);
}

-- ---- each is another

none_same : (x : Note) (xs : List Note) → is_among same_note xs x ≡ false → AllByRecursion (λ y. same_note x y ≡ false) xs
none_same x [] e = tt
none_same x (y ∷ ys) e = (first_no (same_note x y) (is_among same_note ys x) e, none_same x ys (second_no (same_note x y) (is_among same_note ys x) e))

all_append : (x : Note) (xs ys : List Note) → AllByRecursion (λ y. same_note x y ≡ false) xs → AllByRecursion (λ y. same_note x y ≡ false) ys
    → AllByRecursion (λ y. same_note x y ≡ false) (xs ++ ys)
all_append x [] ys h g = g
all_append x (y ∷ xs) ys h g = (h.0, all_append x xs ys h.1 g)

nothing_distinct : IsDistinct same_note []
unfolding IsDistinct
nothing_distinct = tt

distinct_cond : (s : Bool) (x : Note) (xs : List Note) → is_among same_note xs x ≡ false → IsDistinct same_note xs → IsDistinct same_note (cond s xs (x ∷ xs))
unfolding IsDistinct
distinct_cond true x xs e h = h
distinct_cond false x xs e h = (none_same x xs e, h)

distinct_append : (xs ys : List Note) → list_any (is_among same_note ys) xs ≡ false → IsDistinct same_note xs → IsDistinct same_note ys → IsDistinct same_note (xs ++ ys)
unfolding IsDistinct
distinct_append [] ys e h g = g
distinct_append (x ∷ xs) ys e h g = (
  all_append x xs ys h.0 (none_same x ys (first_no (is_among same_note ys x) (list_any (is_among same_note ys) xs) e)),
  distinct_append xs ys (second_no (is_among same_note ys x) (list_any (is_among same_note ys) xs) e) h.1 g,
)

cells_distinct : (t : ℕ) (row : ℤ) (d : ℕ) (vs : List ℤ) (other : Option (List ℤ)) → IsDistinct same_note (cells_only t row d vs other)
cells_distinct t row d [] other = nothing_distinct
cells_distinct t row d (w ∷ vs) other =
    distinct_cond (same_number (at_column other d) w) (Cell t row d w) (cells_only t row (suc d) vs other) (cells_behind t row (suc d) d w vs other (omega arith))
    (cells_distinct t row (suc d) vs other)

row_distinct : (t : ℕ) (row : ℤ) (values other : Option (List ℤ)) → IsDistinct same_note (row_only t row values other)
row_distinct t row None other = nothing_distinct
row_distinct t row (Some vs) other = cells_distinct t row 0 vs other

sums_distinct : (t d : ℕ) (vs others : List ℤ) → IsDistinct same_note (sums_only t d vs others)
sums_distinct t d [] others = nothing_distinct
sums_distinct t d (w ∷ vs) others =
    distinct_cond (int_eq w (total_at others d)) (Sum t d w) (sums_only t (suc d) vs others) (sums_behind t (suc d) d w vs others (omega arith)) (sums_distinct t (suc d) vs others)

pub held_distinct : (a b : PlainBefore) → IsDistinct same_note (held_only a b)
held_distinct a b =
    distinct_append cells (presence ++ (limit ++ sums))
    (no_row_cell (is_among same_note (presence ++ (limit ++ sums))) a.table a.row
    (λ c v. three (same_note (Cell a.table a.row c v)) (no_presence (same_note (Cell a.table a.row c v)) a.table a.row (λ f. refl) (is_there a.values) (is_there b.values))
    (no_limit (same_note (Cell a.table a.row c v)) a.table (λ w. refl) a.limit b.limit) (no_sum (same_note (Cell a.table a.row c v)) a.table (λ d w. refl) 0 a.sums b.sums))
    a.values b.values)
    (row_distinct a.table a.row a.values b.values)
    (distinct_append presence (limit ++ sums)
    (no_presence (is_among same_note (limit ++ sums)) a.table a.row
    (λ f. two (same_note (Has a.table a.row f)) (no_limit (same_note (Has a.table a.row f)) a.table (λ w. refl) a.limit b.limit)
    (no_sum (same_note (Has a.table a.row f)) a.table (λ d w. refl) 0 a.sums b.sums))
    (is_there a.values) (is_there b.values))
    (distinct_cond (same_flag (is_there a.values) (is_there b.values)) (Has a.table a.row (is_there a.values)) [] refl nothing_distinct)
    (distinct_append limit sums
    (no_limit (is_among same_note sums) a.table (λ v. no_sum (same_note (Limit a.table v)) a.table (λ d w. refl) 0 a.sums b.sums) a.limit b.limit)
    (distinct_cond (int_eq a.limit b.limit) (Limit a.table a.limit) [] refl nothing_distinct)
    (sums_distinct a.table 0 a.sums b.sums)))
  where
    cells : List Note
    cells = row_only a.table a.row a.values b.values

    presence : List Note
    presence = presence_only a.table a.row (is_there a.values) (is_there b.values)

    limit : List Note
    limit = limit_only a.table a.limit b.limit

    sums : List Note
    sums = sums_only a.table 0 a.sums b.sums

    two : (p : Note → Bool) → list_any p limit ≡ false → list_any p sums ≡ false → list_any p (limit ++ sums) ≡ false
    two p e f = list_any-append p limit sums ∙ ap₂ (λ x y. x || y) e f

    three : (p : Note → Bool) → list_any p presence ≡ false → list_any p limit ≡ false → list_any p sums ≡ false → list_any p (presence ++ (limit ++ sums)) ≡ false
    three p e f g = list_any-append p presence (limit ++ sums) ∙ ap₂ (λ x y. x || y) e (two p f g)
