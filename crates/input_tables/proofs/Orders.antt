-- Where a number stands among entries by rising numbers, and what an edit at that place leaves.
use Rattle.std.proofs.Common.{◌≡◌, ℕ, zero, suc, ℤ, List, [], ◌∷◌, Some, None, Bool, true, false, cond, refl, ap, ◌∙◌, subst, arith, length, ◌<◌, ◌≤◌}
use Rattle.std.proofs.lemmas.Int.{ints}
use Rattle.std.specs.Prelude.{int_lt, slice_get, slice_set}
use Rattle.std.specs.List.{insert, remove}
use Rattle.std.specs.Ordering.{int_eq}
use Rattle.input_tables.specs.Pages.{lower_count, AreOver, AreRising, put_entry, gone_entry, entry_of, IsOf, IsAbsent}

pub differ : (a b : ℤ) → int_lt a b ≡ true → b ≡ a → ⊥
differ a b h g = absurd (grind (arith, ints))

pub lt_trans : (a b c : ℤ) → int_lt a b ≡ true → int_lt b c ≡ true → int_lt a c ≡ true
lt_trans a b c h g = grind (arith, ints)

pub lt_self : (a : ℤ) → int_lt a a ≡ false
lt_self a = grind (arith, ints)

pub lt_not : (a b : ℤ) → int_lt a b ≡ true → int_lt b a ≡ false
lt_not a b h = grind (arith, ints)

-- how two numbers stand to each other
pub data Compared (a b : ℤ) : Type 0 where
  lower : int_lt a b ≡ true → Compared a b
  same : a ≡ b → Compared a b
  higher : int_lt b a ≡ true → Compared a b

pub compared : (a b : ℤ) → Compared a b
compared a b = by (int_lt a b) (int_lt b a) refl refl
  where
    by : (s t : Bool) → int_lt a b ≡ s → int_lt b a ≡ t → Compared a b
    by true t h g = lower h
    by false true h g = higher g
    by false false h g = same (grind (arith, ints))

module _ {A : Type 0} where
  over_at : (m : ℤ) (es : List (ℤ × A)) (i : ℕ) (e : ℤ × A) → AreOver m es → slice_get es i ≡ Some e → int_lt m e.0 ≡ true
  over_at m [] i e over at = absurd cc
  over_at m (f ∷ es) zero e over at =
      let first : f ≡ e = cc in
      subst (λ (d : ℤ × A). int_lt m d.0 ≡ true) first over.0
  over_at m (f ∷ es) (suc i) e over at = over_at m es i e over.1 at

  pub over_more : (m n : ℤ) (es : List (ℤ × A)) → int_lt m n ≡ true → AreOver n es → AreOver m es
  over_more m n [] h over = tt
  over_more m n (e ∷ es) h over = (lt_trans m n e.0 h over.0, over_more m n es h over.1)

  -- an entry of this number stands at its place
  pub place_there : (n : ℤ) (es : List (ℤ × A)) (i : ℕ) (e : ℤ × A) → AreRising es → slice_get es i ≡ Some e → e.0 ≡ n → lower_count n es ≡ i
  place_there n [] i e rising at is = absurd cc
  place_there n (f ∷ es) zero e rising at is =
      let first : f ≡ e = cc in
      rw (first, is, lt_self n) refl
  place_there n (f ∷ es) (suc i) e rising at is =
      let below : int_lt f.0 n ≡ true = subst (λ (m : ℤ). int_lt f.0 m ≡ true) is (over_at f.0 es i e rising.0 at) in
      rw below (ap suc (place_there n es i e rising.1 at is))

  -- the place is past each entry of a lower number, and not past the others
  pub place_past : (n : ℤ) (es : List (ℤ × A)) (i : ℕ) (e : ℤ × A) → AreRising es → slice_get es i ≡ Some e → int_lt e.0 n ≡ true → i < lower_count n es
  place_past n [] i e rising at below = absurd cc
  place_past n (f ∷ es) zero e rising at below =
      let first : f ≡ e = cc in
      rw (first, below) (omega arith)
  place_past n (f ∷ es) (suc i) e rising at below =
      let before : int_lt f.0 n ≡ true = lt_trans f.0 e.0 n (over_at f.0 es i e rising.0 at) below in
      let more : i < lower_count n es = place_past n es i e rising.1 at below in
      rw before (omega (arith, more))

  pub place_upto : (n : ℤ) (es : List (ℤ × A)) (i : ℕ) (e : ℤ × A) → slice_get es i ≡ Some e → int_lt e.0 n ≡ false → lower_count n es ≤ i
  place_upto n [] i e at upper = absurd cc
  place_upto n (f ∷ es) zero e at upper =
      let first : f ≡ e = cc in
      rw (first, upper) (omega arith)
  place_upto n (f ∷ es) (suc i) e at upper = by (int_lt f.0 n) (place_upto n es i e at upper)
    where
      by : (b : Bool) → lower_count n es ≤ i → cond b (suc (lower_count n es)) 0 ≤ suc i
      by true h = omega (arith, h)
      by false h = omega arith

  pub place_within : (n : ℤ) (es : List (ℤ × A)) → lower_count n es ≤ length es
  place_within n [] = omega arith
  place_within n (f ∷ es) = by (int_lt f.0 n) (place_within n es)
    where
      by : (b : Bool) → lower_count n es ≤ length es → cond b (suc (lower_count n es)) 0 ≤ suc (length es)
      by true h = omega (arith, h)
      by false h = omega arith

  -- what is put at the place of a number
  pub put_over : (n : ℤ) (x : A) (es : List (ℤ × A)) → IsOf n (slice_get es (lower_count n es)) → slice_set es (lower_count n es) (n, x) ≡ put_entry n x es
  put_over n x [] is = absurd is
  put_over n x (f ∷ es) is = elim (compared f.0 n) [
    | lower h ↦ (let there : IsOf n (slice_get es (lower_count n es)) = rw h at is in
        rw (h, lt_not f.0 n h) (ap (λ l. f ∷ l) (put_over n x es there)))
    | same h ↦ rw (h, lt_self n) refl
    | higher h ↦ (let there : f.0 ≡ n = rw (lt_not n f.0 h) at is in absurd (differ n f.0 h there))
  ]

  pub put_new : (n : ℤ) (x : A) (es : List (ℤ × A)) → IsAbsent n (slice_get es (lower_count n es)) → insert es (lower_count n es) (n, x) ≡ put_entry n x es
  put_new n x [] new = refl
  put_new n x (f ∷ es) new = elim (compared f.0 n) [
    | lower h ↦ (let there : IsAbsent n (slice_get es (lower_count n es)) = rw h at new in
        rw (h, lt_not f.0 n h) (ap (λ l. f ∷ l) (put_new n x es there)))
    | same h ↦ (let there : ¬ (n ≡ n) = rw (h, lt_self n) at new in absurd (there refl))
    | higher h ↦ rw (h, lt_not n f.0 h) refl
  ]

  pub gone_there : (n : ℤ) (es : List (ℤ × A)) → IsOf n (slice_get es (lower_count n es)) → remove es (lower_count n es) ≡ gone_entry n es
  gone_there n [] is = absurd is
  gone_there n (f ∷ es) is = elim (compared f.0 n) [
    | lower h ↦ (let there : IsOf n (slice_get es (lower_count n es)) = rw h at is in
        rw h (ap (λ l. f ∷ l) (gone_there n es there)))
    | same h ↦ rw (h, lt_self n) refl
    | higher h ↦ (let there : f.0 ≡ n = rw (lt_not n f.0 h) at is in absurd (differ n f.0 h there))
  ]

  -- what is found at the place of a number
  pub entry_over : (n : ℤ) (es : List (ℤ × A)) → AreOver n es → entry_of n es ≡ None
  entry_over n [] over = refl
  entry_over n (e ∷ es) over = rw (lt_not n e.0 over.0, over.0) (entry_over n es over.1)

  pub entry_there : (n : ℤ) (es : List (ℤ × A)) (e : ℤ × A) → slice_get es (lower_count n es) ≡ Some e → e.0 ≡ n → entry_of n es ≡ Some e.1
  entry_there n [] e at is = absurd cc
  entry_there n (f ∷ es) e at is = elim (compared f.0 n) [
    | lower h ↦ (let there : slice_get es (lower_count n es) ≡ Some e = rw h at at in rw h (entry_there n es e there is))
    | same h ↦ (let there : Some (n, f.1) ≡ Some e = rw (h, lt_self n) at at in
        let pair : (n, f.1) ≡ e = cc in
        rw (h, lt_self n) (ap (λ d. Some d.1) pair))
    | higher h ↦ (let there : Some f ≡ Some e = rw (lt_not n f.0 h) at at in
        let one : f ≡ e = cc in
        absurd (differ n f.0 h (ap (λ d. d.0) one ∙ is)))
  ]

  pub entry_absent : (n : ℤ) (es : List (ℤ × A)) → AreRising es → IsAbsent n (slice_get es (lower_count n es)) → entry_of n es ≡ None
  entry_absent n [] rising absent = refl
  entry_absent n (f ∷ es) rising absent = elim (compared f.0 n) [
    | lower h ↦ (let there : IsAbsent n (slice_get es (lower_count n es)) = rw h at absent in rw h (entry_absent n es rising.1 there))
    | same h ↦ (let there : ¬ (n ≡ n) = rw (h, lt_self n) at absent in absurd (there refl))
    | higher h ↦ entry_over n (f ∷ es) (h, over_more n f.0 es h rising.0)
  ]

  -- the numbers rise still
  over_put : (m n : ℤ) (x : A) (es : List (ℤ × A)) → int_lt m n ≡ true → AreOver m es → AreOver m (put_entry n x es)
  over_put m n x [] h over = (h, tt)
  over_put m n x (e ∷ es) h over = by (int_lt n e.0) (int_lt e.0 n) (put_entry n x es) (over_put m n x es h over.1)
    where
      by : (s t : Bool) (more : List (ℤ × A)) → AreOver m more → AreOver m (cond s ((n, x) ∷ e ∷ es) (cond t (e ∷ more) ((n, x) ∷ es)))
      by true t more left = (h, over)
      by false true more left = (over.0, left)
      by false false more left = (h, over.1)

  pub rising_put : (n : ℤ) (x : A) (es : List (ℤ × A)) → AreRising es → AreRising (put_entry n x es)
  rising_put n x [] rising = (tt, tt)
  rising_put n x (e ∷ es) rising = elim (compared e.0 n) [
    | lower h ↦ rw (h, lt_not e.0 n h) (over_put e.0 n x es h rising.0, rising_put n x es rising.1)
    | same h ↦ rw (h, lt_self n) (subst (λ (m : ℤ). AreOver m es) h rising.0, rising.1)
    | higher h ↦ rw h ((h, over_more n e.0 es h rising.0), rising)
  ]

  over_gone : (m n : ℤ) (es : List (ℤ × A)) → AreOver m es → AreOver m (gone_entry n es)
  over_gone m n [] over = tt
  over_gone m n (e ∷ es) over = by (int_eq e.0 n) (gone_entry n es) (over_gone m n es over.1)
    where
      by : (b : Bool) (more : List (ℤ × A)) → AreOver m more → AreOver m (cond b es (e ∷ more))
      by true more left = over.1
      by false more left = (over.0, left)

  pub rising_gone : (n : ℤ) (es : List (ℤ × A)) → AreRising es → AreRising (gone_entry n es)
  rising_gone n [] rising = tt
  rising_gone n (e ∷ es) rising = by (int_eq e.0 n) (gone_entry n es) (over_gone e.0 n es rising.0) (rising_gone n es rising.1)
    where
      by : (b : Bool) (more : List (ℤ × A)) → AreOver e.0 more → AreRising more → AreRising (cond b es (e ∷ more))
      by true more over left = rising.1
      by false more over left = (over, left)
