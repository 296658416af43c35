-- A record that is moved to a place among the first ones of a list, or behind them.
use Rattle.std.proofs.Common.{◌≡◌, inl, inr, ℕ, zero, suc, ◌+◌, ◌<◌, ◌≤◌, List, [], ◌∷◌, ◌++◌, take, drop, map, length, Some, get_or, refl, sym, subst, ap, ◌∙◌, arith}
use Rattle.std.specs.Prelude.{slice_get, slice_set}
use Rattle.std.specs.List.{position_or_len, SwappedAt}
use Rattle.std.proofs.Math.Seq.{drop-nil}
use Rattle.std.proofs.lemmas.Bool.{cases_eq}
use Rattle.std.proofs.lemmas.List.{length-take-le, set-set, take-set-le, drop-set-lt, take_more_set, drop_more}
use Rattle.std.proofs.lemmas.Option.{get_or_from_slice_get}
use Rattle.record_theory.specs.Record.{PlainRecord, same_instance, instance_number, NoneFrom}
use Rattle.record_theory.specs.Commits.{put_record}
use Rattle.rerun_records.proofs.WithNumbers.{place_within}
use Rattle.place_chains.specs.Chains.{IsEndOf}
use Rattle.rerun_records.proofs.Instances.{set_is_put, push_is_put, set_numbers, pushed_numbers, none_behind, none_there, none_place}

-- ---- two places of a list are swapped

take_set_in : (n i : ℕ) (xs : List PlainRecord) (r : PlainRecord) → take n (slice_set xs i r) ≡ slice_set (take n xs) i r
take_set_in zero i xs r = refl
take_set_in (suc n) i [] r = refl
take_set_in (suc n) zero (x ∷ xs) r = refl
take_set_in (suc n) (suc i) (x ∷ xs) r = ap (λ ys. x ∷ ys) (take_set_in n i xs r)

-- one takes its own place
here : (xs : List PlainRecord) (kept : ℕ) (r : PlainRecord) → r ≡ get_or xs kept r → kept < length xs
    → take (kept + 1) (slice_set (slice_set xs kept r) kept (get_or xs kept r)) ≡ take kept xs ++ r ∷ []
here xs kept r is l =
    ap (λ x. take (kept + 1) (slice_set (slice_set xs kept r) kept x)) (sym is) ∙ ap (take (kept + 1)) (set-set xs kept r r) ∙ take_more_set xs kept r l

-- or one before it
ahead : (xs : List PlainRecord) (kept next : ℕ) (r x : PlainRecord) → kept < next → next < length xs
    → take (kept + 1) (slice_set (slice_set xs kept r) next x) ≡ take kept xs ++ r ∷ []
ahead xs kept next r x far l = take-set-le (kept + 1) (slice_set xs kept r) next x (omega (arith, far)) ∙ take_more_set xs kept r (omega (arith, far, l))

-- what is behind both places stays
pub rest_stays : (xs ys : List PlainRecord) (place kept next : ℕ) → SwappedAt xs ys place next → place ≤ kept → kept ≤ next → next < length xs → drop (next + 1) ys ≡ drop (next + 1) xs
rest_stays [] ys place kept next s p k l = absurd (omega (arith, l))
rest_stays (x ∷ xs) ys place kept next s p k l =
    ap (drop (next + 1)) (s.3 x) ∙ drop-set-lt (next + 1) (slice_set (x ∷ xs) place (get_or (x ∷ xs) next x)) next (get_or (x ∷ xs) place x) (omega arith)
    ∙ drop-set-lt (next + 1) (x ∷ xs) place (get_or (x ∷ xs) next x) (omega (arith, p, k))

-- ---- a record among the first ones

module _ (xs ys : List PlainRecord) (place kept next : ℕ) (made : PlainRecord) (swapped : SwappedAt xs ys place next) (low : kept ≤ next) (within : next < length xs)
    (there : slice_get xs next ≡ Some made) (found : place ≡ position_or_len (same_instance made) (take kept xs)) where
  read : made ≡ get_or xs next made
  read = sym (get_or_from_slice_get xs next made made there)

  swapped_is : ys ≡ slice_set (slice_set xs place made) next (get_or xs place made)
  swapped_is = swapped.3 made ∙ ap (λ x. slice_set (slice_set xs place x) next (get_or xs place made)) (sym read)

  many : length (take kept xs) ≡ kept
  many = length-take-le kept xs (omega (arith, low, within))

  inside : place < kept → place < length (take kept xs)
  inside l = let m = many in omega (arith, l, m)

  set_among : take kept ys ≡ slice_set (take kept xs) place made
  set_among = ap (take kept) swapped_is ∙ take-set-le kept (slice_set xs place made) next (get_or xs place made) low ∙ take_set_in kept place xs made

  pushed_behind : place ≡ kept → take (kept + 1) ys ≡ take kept xs ++ made ∷ []
  pushed_behind e =
      ap (take (kept + 1)) swapped_is ∙ ap (λ i. take (kept + 1) (slice_set (slice_set xs i made) next (get_or xs i made))) e
      ∙ (elim (cases_eq kept next) as (λ _. take (kept + 1) (slice_set (slice_set xs kept made) next (get_or xs kept made)) ≡ take kept xs ++ made ∷ []) [
        | inl same ↦
            ap (λ i. take (kept + 1) (slice_set (slice_set xs kept made) i (get_or xs kept made))) (sym same)
            ∙ here xs kept made (read ∙ ap (λ i. get_or xs i made) (sym same)) (omega (arith, low, within))
        | inr far ↦ ahead xs kept next made (get_or xs kept made) (let less : kept < next = omega (arith, low, far) in less) within
      ])

  -- in the place of the one of its procedure and arguments
  pub put_among : place < kept → take kept ys ≡ put_record (take kept xs) made
  put_among l = set_among ∙ set_is_put (take kept xs) made place found (inside l)

  pub among_numbers : (ns : List ℕ) → ns ≡ map instance_number (take kept xs) → place < kept → ns ≡ map instance_number (take kept ys)
  among_numbers ns n l = n ∙ sym (ap (map instance_number) set_among ∙ set_numbers (take kept xs) made place found (inside l))

  -- or behind the others
  pub put_behind : place ≤ kept → kept ≤ place → take (kept + 1) ys ≡ put_record (take kept xs) made
  put_behind p q =
      pushed_behind (omega (arith, p, q)) ∙ push_is_put (take kept xs) made place found (let m = many in omega (arith, q, m))

  pub behind_numbers : (ns ms : List ℕ) (number : ℕ) → ns ≡ map instance_number (take kept xs) → number ≡ instance_number made → ms ≡ ns ++ number ∷ [] → place ≤ kept → kept ≤ place
      → ms ≡ map instance_number (take (kept + 1) ys)
  behind_numbers ns ms number n i m p q =
      pushed_numbers (take kept xs) (take (kept + 1) ys) ns ms made number n i m (pushed_behind (omega (arith, p, q)))

pub within_kept : (xs : List PlainRecord) (place kept : ℕ) (made : PlainRecord) → kept ≤ length xs → place ≡ position_or_len (same_instance made) (take kept xs) → place ≤ kept
within_kept xs place kept made l found =
    let many : length (take kept xs) ≡ kept = length-take-le kept xs l in
    let low : position_or_len (same_instance made) (take kept xs) ≤ length (take kept xs) = place_within made (take kept xs) in
    omega (arith, many, low, found)

-- ---- the first of what is left

pub some_there : (xs : List PlainRecord) (i : ℕ) → i < length xs → (r : PlainRecord) × (slice_get xs i ≡ Some r)
some_there [] i l = absurd (omega (arith, l))
some_there (x ∷ xs) zero l = (x, refl)
some_there (x ∷ xs) (suc i) l = some_there xs i (omega (arith, l))

pub next_is : (xs ys : List PlainRecord) (next : ℕ) (made : PlainRecord) → slice_get xs next ≡ Some made → next < length xs → drop (next + 1) ys ≡ drop (next + 1) xs
    → drop next xs ≡ made ∷ drop (next + 1) ys
next_is xs ys next made there within rest =
    drop_more xs next made within ∙ ap (λ x. x ∷ drop (next + 1) xs) (get_or_from_slice_get xs next made made there) ∙ ap (λ zs. made ∷ zs) (sym rest)

-- numbers of what is left, without the first of it
numbers_of_rest : (xs : List PlainRecord) (next : ℕ) (ns : List ℕ) → drop next ns ≡ map instance_number (drop next xs) → drop (suc next) ns ≡ map instance_number (drop (suc next) xs)
numbers_of_rest [] zero [] e = refl
numbers_of_rest [] zero (n ∷ ns) e = absurd cc
numbers_of_rest (x ∷ xs) zero [] e = absurd cc
numbers_of_rest (x ∷ xs) zero (n ∷ ns) e = cc (e)
numbers_of_rest [] (suc next) [] e = refl
numbers_of_rest [] (suc next) (n ∷ ns) e = numbers_of_rest [] next ns (e ∙ sym (ap (map instance_number) (drop-nil next))) ∙ ap (map instance_number) (drop-nil (suc next))
numbers_of_rest (x ∷ xs) (suc next) [] e = sym (drop-nil (suc next)) ∙ numbers_of_rest xs next [] (drop-nil next ∙ e)
numbers_of_rest (x ∷ xs) (suc next) (n ∷ ns) e = numbers_of_rest xs next ns e

pub numbers_behind : (xs ys : List PlainRecord) (next : ℕ) (ns : List ℕ) → drop (next + 1) ys ≡ drop (next + 1) xs → drop next ns ≡ map instance_number (drop next xs)
    → drop (next + 1) ns ≡ map instance_number (drop (next + 1) ys)
numbers_behind xs ys next ns rest e =
    let one : suc next ≡ next + 1 = omega arith in
    subst (λ (k : ℕ). drop k ns ≡ map instance_number (drop k xs)) one (numbers_of_rest xs next ns e) ∙ sym (ap (map instance_number) rest)

-- the number that stands where a record stands
pub number_there_is : (xs : List PlainRecord) (next : ℕ) (ns : List ℕ) (made : PlainRecord) → drop next ns ≡ map instance_number (drop next xs) → slice_get xs next ≡ Some made
    → get_or ns next 0 ≡ instance_number made
number_there_is [] next ns made e there = absurd cc
number_there_is (x ∷ xs) zero [] made e there = absurd cc
number_there_is (x ∷ xs) zero (m ∷ ns) made e there = (let first : m ≡ instance_number x = cc (e) in first) ∙ ap instance_number (let same : x ≡ made = cc (there) in same)
number_there_is (x ∷ xs) (suc next) [] made e there = number_there_is xs next [] made (drop-nil next ∙ e) there
number_there_is (x ∷ xs) (suc next) (m ∷ ns) made e there = number_there_is xs next ns made e there

pub number_within : (xs : List PlainRecord) (next : ℕ) (ns : List ℕ) → next < length xs → drop next ns ≡ map instance_number (drop next xs) → next < length ns
number_within [] next ns l e = absurd (omega (arith, l))
number_within (x ∷ xs) zero [] l e = absurd cc
number_within (x ∷ xs) zero (n ∷ ns) l e = omega arith
number_within (x ∷ xs) (suc next) [] l e = let low = number_within xs next [] (omega (arith, l)) (drop-nil next ∙ e) in absurd (omega (arith, low))
number_within (x ∷ xs) (suc next) (n ∷ ns) l e = let low = number_within xs next ns (omega (arith, l)) e in omega (arith, low)

-- where none of those that are kept has its number, a record's place is behind them
pub none_kept : (xs : List PlainRecord) (kept : ℕ) (ns : List ℕ) (number : ℕ) (made : PlainRecord) (end : ℕ) → kept ≤ length xs → ns ≡ map instance_number (take kept xs) → number ≡ instance_number made
    → IsEndOf ns (length ns) number end → end ≡ 0 → kept ≡ position_or_len (same_instance made) (take kept xs)
none_kept xs kept ns number made end low numbered is h none =
    let few = take kept xs in
    let past : NoneFrom made.procedure made.arguments few 0 =
    subst (NoneFrom made.procedure made.arguments few) none (none_behind made.procedure made.arguments few ns number numbered is end h) in
    sym (length-take-le kept xs low) ∙ none_place few (same_instance made) (none_there made.procedure made.arguments few past)
