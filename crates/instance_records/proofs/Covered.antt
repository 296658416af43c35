-- Spans of rows hold what was put into them.
use Rattle.std.proofs.Common.{◌≡◌, ℕ, zero, suc, ◌<◌, ◌≤ℤ◌, ℤ, pos, Bool, true, false, true≢false, T, cond, List, [], ◌∷◌, ◌++◌, take, drop, length, map, refl, sym, ap, ◌∙◌, subst, arith}
use Rattle.std.proofs.lemmas.Int.{ints, clamps}
use Rattle.std.specs.Prelude.{◌&&◌, ◌||◌, nat_eq, int_le, get_or, slice_set, slice_index_or}
use Rattle.std.specs.Int.{int_min, int_max}
use Rattle.std.specs.Int.Signed.{le_z_yes}
use Rattle.std.specs.List.{list_any}
use Rattle.std.specs.Ordering.{int_eq}
use Rattle.std.proofs.lemmas.Bool.Decides.{Decides-eqb, Decides-int_eq}
use Rattle.evaluation.specs.declared.note.Note.{Note}
use Rattle.evaluation.specs.declared.note.Note.TheVariants.{Cell, Has, Limit, Sum}
use Rattle.meaning.specs.Every.{every}
use Rattle.evaluation.specs.declared.reading.Reading.{Reading}
use Rattle.evaluation.specs.declared.reading.Reading.TheVariants as r
use Rattle.instance_records.specs.declared.spans.Span.{Span}
use Rattle.evaluation.specs.Short.{note_of}
use Rattle.instance_records.specs.Spans.{span_of, has_row, covers, is_covered_by, lies_in, is_touched, joined, put_span, put_spans}
use Rattle.record_theory.specs.InStep.{rests_on}
use Rattle.record_theory.proofs.Members.{left_is, right_is, both}

-- ---- a span in its place

-- where the first of the span's table is
pub found_is : (xs : List Span) (i : ℕ) (x y s : Span) → i < length xs → x ≡ get_or xs i x → y ≡ get_or xs i y → y.table ≡ s.table → slice_set xs i (joined x s) ≡ take i xs ++ put_span (drop i xs) s
found_is [] i x y s l e f t = absurd (omega (arith, l))
found_is (z ∷ zs) zero x y s l e f t =
    let same : nat_eq z.table s.table ≡ true = (Decides-eqb z.table s.table).1 (ap (λ (w : Span). w.table) (sym f) ∙ t) in
    rw same (ap (λ w. joined w s ∷ zs) e)
found_is (z ∷ zs) (suc i) x y s l e f t = ap (λ ys. z ∷ ys) (found_is zs i x y s (omega (arith, l)) e f t)

-- ---- tests

of_t : (b : Bool) → T b → b ≡ true
of_t true t = refl
of_t false t = absurd t

pub le_is : (a b : ℤ) → a ≤ℤ b → int_le a b ≡ true
le_is a b h = of_t (int_le a b) h.le

pub is_le : (a b : ℤ) → int_le a b ≡ true → a ≤ℤ b
is_le a b e = le_z_yes (subst T (sym e) tt)

or_left : (a b : Bool) → a ≡ true → a || b ≡ true
or_left a b e = ap (λ x. x || b) e

or_right : (a b : Bool) → b ≡ true → a || b ≡ true
or_right true b e = refl
or_right false b e = e

on_left : (a b c : Bool) → (a ≡ true → b ≡ true) → a || c ≡ true → b || c ≡ true
on_left true b c f e = or_left b c (f refl)
on_left false b c f e = or_right b c e

on_right : (a b c : Bool) → (b ≡ true → c ≡ true) → a || b ≡ true → a || c ≡ true
on_right true b c f e = refl
on_right false b c f e = f e

left_not : (a b : Bool) → a || b ≡ false → a ≡ false
left_not true b e = absurd (true≢false e)
left_not false b e = refl

right_not : (a b : Bool) → a || b ≡ false → b ≡ false
right_not true b e = absurd (true≢false e)
right_not false b e = e

-- ---- the rows of both

min_left : (a b r : ℤ) → int_le a r ≡ true → int_le (int_min a b) r ≡ true
min_left a b r e = let h = is_le a r e in le_is (int_min a b) r (omega (arith, ints, clamps, h))

min_right : (a b r : ℤ) → int_le b r ≡ true → int_le (int_min a b) r ≡ true
min_right a b r e = let h = is_le b r e in le_is (int_min a b) r (omega (arith, ints, clamps, h))

max_left : (a b r : ℤ) → int_le r a ≡ true → int_le r (int_max a b) ≡ true
max_left a b r e = let h = is_le r a e in le_is r (int_max a b) (omega (arith, ints, clamps, h))

max_right : (a b r : ℤ) → int_le r b ≡ true → int_le r (int_max a b) ≡ true
max_right a b r e = let h = is_le r b e in le_is r (int_max a b) (omega (arith, ints, clamps, h))

more_left : (v w p q : Bool) → (p ≡ true → q ≡ true) → v || p ≡ true → (v || w) || q ≡ true
more_left true w p q f e = refl
more_left false true p q f e = refl
more_left false false p q f e = f e

more_right : (v w p q : Bool) → (p ≡ true → q ≡ true) → w || p ≡ true → (v || w) || q ≡ true
more_right true w p q f e = refl
more_right false true p q f e = refl
more_right false false p q f e = f e

rows_left : (a b : Span) (row : ℤ) → has_row a row ≡ true → has_row (joined a b) row ≡ true
rows_left a b row =
    more_left a.whole b.whole (int_le a.low row && int_le row a.high) (int_le (int_min a.low b.low) row && int_le row (int_max a.high b.high))
    (λ e. both (int_le (int_min a.low b.low) row) (int_le row (int_max a.high b.high))
    (min_left a.low b.low row (left_is (int_le a.low row) (int_le row a.high) e))
    (max_left a.high b.high row (right_is (int_le a.low row) (int_le row a.high) e)))

rows_right : (a b : Span) (row : ℤ) → has_row b row ≡ true → has_row (joined a b) row ≡ true
rows_right a b row =
    more_right a.whole b.whole (int_le b.low row && int_le row b.high) (int_le (int_min a.low b.low) row && int_le row (int_max a.high b.high))
    (λ e. both (int_le (int_min a.low b.low) row) (int_le row (int_max a.high b.high))
    (min_right a.low b.low row (left_is (int_le b.low row) (int_le row b.high) e))
    (max_right a.high b.high row (right_is (int_le b.low row) (int_le row b.high) e)))

whole_left : (t : ℕ) (a b : Span) → nat_eq a.table t && a.whole ≡ true → nat_eq a.table t && (a.whole || b.whole) ≡ true
whole_left t a b e = both (nat_eq a.table t) (a.whole || b.whole) (left_is (nat_eq a.table t) a.whole e) (or_left a.whole b.whole (right_is (nat_eq a.table t) a.whole e))

whole_right : (t : ℕ) (a b : Span) → a.table ≡ b.table → nat_eq b.table t && b.whole ≡ true → nat_eq a.table t && (a.whole || b.whole) ≡ true
whole_right t a b s e =
    both (nat_eq a.table t) (a.whole || b.whole) (ap (λ n. nat_eq n t) s ∙ left_is (nat_eq b.table t) b.whole e) (or_right a.whole b.whole (right_is (nat_eq b.table t) b.whole e))

covers_left : (note : Note) (a b : Span) → covers note a ≡ true → covers note (joined a b) ≡ true
covers_left (Cell t row c v) a b e = both (nat_eq a.table t) (has_row (joined a b) row) (left_is (nat_eq a.table t) (has_row a row) e) (rows_left a b row (right_is (nat_eq a.table t) (has_row a row) e))
covers_left (Has t row there) a b e = both (nat_eq a.table t) (has_row (joined a b) row) (left_is (nat_eq a.table t) (has_row a row) e) (rows_left a b row (right_is (nat_eq a.table t) (has_row a row) e))
covers_left (Limit t v) a b e = whole_left t a b e
covers_left (Sum t c v) a b e = whole_left t a b e

covers_right : (note : Note) (a b : Span) → a.table ≡ b.table → covers note b ≡ true → covers note (joined a b) ≡ true
covers_right (Cell t row c v) a b s e =
    both (nat_eq a.table t) (has_row (joined a b) row) (ap (λ n. nat_eq n t) s ∙ left_is (nat_eq b.table t) (has_row b row) e) (rows_right a b row (right_is (nat_eq b.table t) (has_row b row) e))
covers_right (Has t row there) a b s e =
    both (nat_eq a.table t) (has_row (joined a b) row) (ap (λ n. nat_eq n t) s ∙ left_is (nat_eq b.table t) (has_row b row) e) (rows_right a b row (right_is (nat_eq b.table t) (has_row b row) e))
covers_right (Limit t v) a b s e = whole_right t a b s e
covers_right (Sum t c v) a b s e = whole_right t a b s e

-- ---- what was covered stays so, and what is put in is covered

keeps : (xs : List Span) (s : Span) (note : Note) → is_covered_by xs note ≡ true → is_covered_by (put_span xs s) note ≡ true
keeps [] s note e = absurd (true≢false (sym e))
keeps (x ∷ xs) s note e =
    elim (nat_eq x.table s.table) as (λ b. is_covered_by (cond b (joined x s ∷ xs) (x ∷ put_span xs s)) note ≡ true) [
      | true ↦ on_left (covers note x) (covers note (joined x s)) (is_covered_by xs note) (covers_left note x s) e
      | false ↦ on_right (covers note x) (is_covered_by xs note) (is_covered_by (put_span xs s) note) (keeps xs s note) e
    ]

adds : (xs : List Span) (s : Span) (note : Note) → covers note s ≡ true → is_covered_by (put_span xs s) note ≡ true
adds [] s note e = or_left (covers note s) false e
adds (x ∷ xs) s note e =
    elim (nat_eq x.table s.table) as (λ b. nat_eq x.table s.table ≡ b → is_covered_by (cond b (joined x s ∷ xs) (x ∷ put_span xs s)) note ≡ true) [
      | true ↦ λ t. or_left (covers note (joined x s)) (is_covered_by xs note) (covers_right note x s ((Decides-eqb x.table s.table).0 t) e)
      | false ↦ λ t. or_right (covers note x) (is_covered_by (put_span xs s) note) (adds xs s note e)
    ] refl

pub keeps_all : (ss xs : List Span) (note : Note) → is_covered_by xs note ≡ true → is_covered_by (put_spans xs ss) note ≡ true
keeps_all [] xs note e = e
keeps_all (s ∷ ss) xs note e = keeps_all ss (put_span xs s) note (keeps xs s note e)

pub adds_all : (ss xs : List Span) (note : Note) → is_covered_by ss note ≡ true → is_covered_by (put_spans xs ss) note ≡ true
adds_all [] xs note e = absurd (true≢false (sym e))
adds_all (s ∷ ss) xs note e =
    elim (covers note s) as (λ b. covers note s ≡ b → b || is_covered_by ss note ≡ true → is_covered_by (put_spans (put_span xs s) ss) note ≡ true) [
      | true ↦ λ c h. keeps_all ss (put_span xs s) note (adds xs s note c)
      | false ↦ λ c h. adds_all ss (put_span xs s) note h
    ] refl e

same_number : (n : ℕ) → nat_eq n n ≡ true
same_number n = (Decides-eqb n n).1 refl

one_row : (row : ℤ) → int_le row row && int_le row row ≡ true
one_row row = let h : row ≤ℤ row = omega (arith, ints) in both (int_le row row) (int_le row row) (le_is row row h) (le_is row row h)

read_covered : (reading : Reading) → covers (note_of reading) (span_of reading) ≡ true
read_covered (r.Cell c t row v) = both (nat_eq t t) (int_le (pos row) (pos row) && int_le (pos row) (pos row)) (same_number t) (one_row (pos row))
read_covered (r.Has there t row) = both (nat_eq t t) (int_le row row && int_le row row) (same_number t) (one_row row)
read_covered (r.Limit t v) = both (nat_eq t t) true (same_number t) refl
read_covered (r.Sum c t v) = both (nat_eq t t) true (same_number t) refl

pub adds_read : (own : List Reading) (xs : List Span) → every (is_covered_by (put_spans xs (map span_of own))) (map note_of own) ≡ true
adds_read [] xs = refl
adds_read (x ∷ own) xs =
    both (is_covered_by (put_spans (put_span xs (span_of x)) (map span_of own)) (note_of x)) (every (is_covered_by (put_spans (put_span xs (span_of x)) (map span_of own))) (map note_of own))
    (keeps_all (map span_of own) (put_span xs (span_of x)) (note_of x) (adds xs (span_of x) (note_of x) (read_covered x)))
    (adds_read own (put_span xs (span_of x)))

-- ---- what is put in twice is as if put in once

abbrev made : ℕ → Bool → ℤ → ℤ → Span
made t w l h = record { table = t; whole = w; low = l; high = h }

or_twice : (a b : Bool) → (a || b) || b ≡ a || b
or_twice true b = refl
or_twice false true = refl
or_twice false false = refl

or_same : (a : Bool) → a || a ≡ a
or_same true = refl
or_same false = refl

min_twice : (a b : ℤ) → int_min (int_min a b) b ≡ int_min a b
min_twice a b = omega (arith, ints, clamps)

max_twice : (a b : ℤ) → int_max (int_max a b) b ≡ int_max a b
max_twice a b = omega (arith, ints, clamps)

min_same : (a : ℤ) → int_min a a ≡ a
min_same a = omega (arith, ints, clamps)

max_same : (a : ℤ) → int_max a a ≡ a
max_same a = omega (arith, ints, clamps)

joined_twice : (a s : Span) → joined (joined a s) s ≡ joined a s
joined_twice a s =
    ap (λ w. made a.table w (int_min (int_min a.low s.low) s.low) (int_max (int_max a.high s.high) s.high)) (or_twice a.whole s.whole)
    ∙ ap (λ l. made a.table (a.whole || s.whole) l (int_max (int_max a.high s.high) s.high)) (min_twice a.low s.low)
    ∙ ap (λ h. made a.table (a.whole || s.whole) (int_min a.low s.low) h) (max_twice a.high s.high)

joined_same : (s : Span) → joined s s ≡ s
joined_same s =
    ap (λ w. made s.table w (int_min s.low s.low) (int_max s.high s.high)) (or_same s.whole)
    ∙ ap (λ l. made s.table s.whole l (int_max s.high s.high)) (min_same s.low)
    ∙ ap (λ h. made s.table s.whole s.low h) (max_same s.high)

pub put_twice : (xs : List Span) (s : Span) → put_span (put_span xs s) s ≡ put_span xs s
put_twice [] s = ap (λ b. cond b (joined s s ∷ []) (s ∷ s ∷ [])) (same_number s.table) ∙ ap (λ z. z ∷ []) (joined_same s)
put_twice (x ∷ xs) s =
    elim (nat_eq x.table s.table) as (λ b. nat_eq x.table s.table ≡ b → put_span (cond b (joined x s ∷ xs) (x ∷ put_span xs s)) s ≡ cond b (joined x s ∷ xs) (x ∷ put_span xs s)) [
      | true ↦ λ t. ap (λ b. cond b (joined (joined x s) s ∷ xs) (joined x s ∷ put_span xs s)) t ∙ ap (λ z. z ∷ xs) (joined_twice x s)
      | false ↦ λ t. ap (λ b. cond b (joined x s ∷ put_span xs s) (x ∷ put_span (put_span xs s) s)) t ∙ ap (λ ys. x ∷ ys) (put_twice xs s)
    ] refl

-- ---- two readings

two_there : (d : Reading) (xs : List Reading) → length xs ≡ 2 → xs ≡ slice_index_or xs 0 d ∷ slice_index_or xs 1 d ∷ []
two_there d [] n = absurd (omega (arith, n))
two_there d (x ∷ []) n = absurd (omega (arith, n))
two_there d (x ∷ y ∷ z ∷ xs) n = absurd (omega (arith, n))
two_there d (x ∷ y ∷ []) n = refl

both_covered : (d : Reading) (pair : List Reading) (spans : List Span) → length pair ≡ 2 → is_covered_by spans (note_of (slice_index_or pair 0 d)) ≡ true → is_covered_by spans (note_of (slice_index_or pair 1 d)) ≡ true
    → every (is_covered_by spans) (map note_of pair) ≡ true
both_covered d pair spans n g h =
    let a = note_of (slice_index_or pair 0 d) in
    let b = note_of (slice_index_or pair 1 d) in
    ap (λ xs. every (is_covered_by spans) (map note_of xs)) (two_there d pair n)
    ∙ both (is_covered_by spans a) (is_covered_by spans b && true) g (both (is_covered_by spans b) true h refl)

pub put_one : (old new : List Span) (s : Span) (note : Note) → new ≡ put_span old s → is_covered_by old note ≡ true → is_covered_by new note ≡ true
put_one old new s note e h = subst (λ ss. is_covered_by ss note ≡ true) (sym e) (keeps old s note h)

pub put_holds : (old new : List Span) (s : Span) (reading : Reading) → s ≡ span_of reading → new ≡ put_span old s → is_covered_by new (note_of reading) ≡ true
put_holds old new s reading e h =
    subst (λ ss. is_covered_by ss (note_of reading) ≡ true) (sym h) (adds old s (note_of reading) (subst (λ z. covers (note_of reading) z ≡ true) (sym e) (read_covered reading)))

-- one span holds both
pub one_for_two : (d : Reading) (pair : List Reading) (old new : List Span) (s t : Span) → length pair ≡ 2 → s ≡ span_of (slice_index_or pair 0 d) → t ≡ span_of (slice_index_or pair 1 d) → s ≡ t → new ≡ put_span old s
    → every (is_covered_by new) (map note_of pair) ≡ true
one_for_two d pair old new s t n e f i h = both_covered d pair new n (put_holds old new s (slice_index_or pair 0 d) e h) (put_holds old new s (slice_index_or pair 1 d) (i ∙ f) h)

-- each has its own
pub one_for_each : (d : Reading) (pair : List Reading) (old mid new : List Span) (s t : Span) → length pair ≡ 2 → s ≡ span_of (slice_index_or pair 0 d) → t ≡ span_of (slice_index_or pair 1 d) → mid ≡ put_span old s → new ≡ put_span mid t
    → every (is_covered_by new) (map note_of pair) ≡ true
one_for_each d pair old mid new s t n e f g h =
    both_covered d pair new n (put_one mid new t (note_of (slice_index_or pair 0 d)) h (put_holds old mid s (slice_index_or pair 0 d) e g)) (put_holds mid new t (slice_index_or pair 1 d) f h)

-- two readings of the rows of two others
pub two_rows : (d : Reading) (pair others : List Reading) → length pair ≡ 2 → length others ≡ 2
    → ((h : List Span) → is_covered_by h (note_of (slice_index_or pair 0 d)) ≡ is_covered_by h (note_of (slice_index_or others 0 d)))
    → ((h : List Span) → is_covered_by h (note_of (slice_index_or pair 1 d)) ≡ is_covered_by h (note_of (slice_index_or others 1 d)))
    → (h : List Span) → every (is_covered_by h) (map note_of others) ≡ true → every (is_covered_by h) (map note_of pair) ≡ true
two_rows d pair others n m e f h t =
    ap (λ (xs : List Reading). every (is_covered_by h) (map note_of xs)) (two_there d pair n)
    ∙ ap (λ b. b && (is_covered_by h (note_of (slice_index_or pair 1 d)) && true)) (e h)
    ∙ ap (λ b. is_covered_by h (note_of (slice_index_or others 0 d)) && (b && true)) (f h)
    ∙ sym (ap (λ (xs : List Reading). every (is_covered_by h) (map note_of xs)) (two_there d others m))
    ∙ t

-- ---- where no change lies in a span, none changes what is covered

whole_has : (s : Span) (row : ℤ) → s.whole ≡ true → has_row s row ≡ true
whole_has s row e = or_left s.whole (int_le s.low row && int_le row s.high) e

row_in : (t : ℕ) (row : ℤ) (change : ℕ × ℤ) (s : Span) → nat_eq t change.0 && int_eq row change.1 ≡ true → nat_eq s.table t && has_row s row ≡ true → lies_in change s ≡ true
row_in t row change s h e =
    let table_is : t ≡ change.0 = (Decides-eqb t change.0).0 (left_is (nat_eq t change.0) (int_eq row change.1) h) in
    let row_is : row ≡ change.1 = (Decides-int_eq row change.1).0 (right_is (nat_eq t change.0) (int_eq row change.1) h) in
    both (nat_eq s.table change.0) (has_row s change.1)
    (ap (nat_eq s.table) (sym table_is) ∙ left_is (nat_eq s.table t) (has_row s row) e)
    (ap (has_row s) (sym row_is) ∙ right_is (nat_eq s.table t) (has_row s row) e)

table_in : (t : ℕ) (change : ℕ × ℤ) (s : Span) → nat_eq t change.0 ≡ true → nat_eq s.table t && s.whole ≡ true → lies_in change s ≡ true
table_in t change s h e =
    let table_is : t ≡ change.0 = (Decides-eqb t change.0).0 h in
    both (nat_eq s.table change.0) (has_row s change.1)
    (ap (nat_eq s.table) (sym table_is) ∙ left_is (nat_eq s.table t) s.whole e)
    (whole_has s change.1 (right_is (nat_eq s.table t) s.whole e))

lies_there : (note : Note) (change : ℕ × ℤ) (s : Span) → rests_on note change ≡ true → covers note s ≡ true → lies_in change s ≡ true
lies_there (Cell t row c v) change s h e = row_in t row change s h e
lies_there (Has t row there) change s h e = row_in t row change s h e
lies_there (Limit t v) change s h e = table_in t change s h e
lies_there (Sum t c v) change s h e = table_in t change s h e

none_rests : (note : Note) (s : Span) (changes : List (ℕ × ℤ)) → covers note s ≡ true → list_any (λ c. lies_in c s) changes ≡ false → list_any (rests_on note) changes ≡ false
none_rests note s [] e h = refl
none_rests note s (c ∷ cs) e h =
    elim (rests_on note c) as (λ b. rests_on note c ≡ b → b || list_any (rests_on note) cs ≡ false) [
      | true ↦ λ r. absurd (true≢false (sym (or_left (lies_in c s) (list_any (λ c. lies_in c s) cs) (lies_there note c s r e)) ∙ h))
      | false ↦ λ r. none_rests note s cs e (right_not (lies_in c s) (list_any (λ c. lies_in c s) cs) h)
    ] refl

pub untouched : (spans : List Span) (changes : List (ℕ × ℤ)) (note : Note) → is_touched spans changes ≡ false → is_covered_by spans note ≡ true → list_any (rests_on note) changes ≡ false
untouched [] changes note h e = absurd (true≢false (sym e))
untouched (s ∷ ss) changes note h e =
    elim (covers note s) as (λ b. covers note s ≡ b → b || is_covered_by ss note ≡ true → list_any (rests_on note) changes ≡ false) [
      | true ↦ λ c f. none_rests note s changes c (left_not (list_any (λ c. lies_in c s) changes) (is_touched ss changes) h)
      | false ↦ λ c f. untouched ss changes note (right_not (list_any (λ c. lies_in c s) changes) (is_touched ss changes) h) f
    ] refl e
