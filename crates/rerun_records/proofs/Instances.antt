-- How the record of a procedure and arguments is found by their number, and put in.
use Rattle.std.proofs.Common.{◌≡◌, inl, inr, ℕ, zero, suc, ◌+◌, ◌-◌, ◌<◌, ◌≤◌, ℤ, Bool, true, false, true≢false, cond, not, List, [], ◌∷◌, ◌++◌, map, length, Some, None, get_or, refl, sym, ap, ◌∙◌, subst, arith}
use Rattle.std.specs.Prelude.{slice_get, slice_set}
use Rattle.std.specs.List.{find, position_or_len, AllByRecursion, IsDistinct}
use Rattle.std.proofs.lemmas.Bool.{cases_eq, cases_lt}
use Rattle.place_chains.specs.Chains.{IsEndOf}
use Rattle.place_chains.specs.Mixing.{number_of}
use Rattle.record_theory.specs.Record.{PlainRecord, is_of, same_instance, instance_number, NoneFrom, as_made}
use Rattle.record_theory.specs.Commits.{put_record, AreSingle}
use Rattle.rerun_records.proofs.Homes.{false_if}
use Rattle.rerun_records.proofs.Wholes.{of_itself, of_procedure, of_arguments, place_at_place}

-- ---- looked for

pub there_is : (rs : List PlainRecord) (i : ℕ) (r : PlainRecord) → i < length rs → r ≡ get_or rs i r → slice_get rs i ≡ Some r
there_is [] i r l e = absurd (omega (arith, l))
there_is (x ∷ xs) zero r l e = ap Some (sym e)
there_is (x ∷ xs) (suc i) r l e = there_is xs i r (omega (arith, l)) e

pub as_many : (rs : List PlainRecord) (ns : List ℕ) → ns ≡ map instance_number rs → length ns ≡ length rs
as_many rs ns e = ap length e ∙ mapped rs
  where
    mapped : (xs : List PlainRecord) → length (map instance_number xs) ≡ length xs
    mapped [] = refl
    mapped (x ∷ xs) = ap suc (mapped xs)

-- the number that stands at a record's place
number_at : (rs : List PlainRecord) (i : ℕ) (r : PlainRecord) → slice_get rs i ≡ Some r → get_or (map instance_number rs) i 0 ≡ instance_number r
number_at [] i r e = absurd cc
number_at (x ∷ xs) zero r e = ap instance_number (let same : x ≡ r = cc (e) in same)
number_at (x ∷ xs) (suc i) r e = number_at xs i r e

pub there_within : (rs : List PlainRecord) (i : ℕ) (r : PlainRecord) → slice_get rs i ≡ Some r → i < length (map instance_number rs)
there_within [] i r e = absurd cc
there_within (x ∷ xs) zero r e = omega arith
there_within (x ∷ xs) (suc i) r e = let h = there_within xs i r e in omega (arith, h)

module _ (procedure : ℕ) (arguments : List ℤ) where
  pub same_number : (r : PlainRecord) → is_of procedure arguments r ≡ true → instance_number r ≡ number_of procedure arguments
  same_number r e = ap (λ f. number_of f r.arguments) (of_procedure procedure arguments r e) ∙ ap (number_of procedure) (of_arguments procedure arguments r e)

  pub none_there : (rs : List PlainRecord) → NoneFrom procedure arguments rs 0 → find (is_of procedure arguments) rs ≡ None
  none_there [] h = refl
  none_there (x ∷ xs) h =
      ap (λ b. cond b (Some x) (find (is_of procedure arguments) xs)) (h 0 x (omega arith) refl)
      ∙ none_there xs (λ i r l e. h (suc i) r (omega arith) e)

  module _ (rs : List PlainRecord) (ns : List ℕ) (number : ℕ) (placed : ns ≡ map instance_number rs) (is : number ≡ number_of procedure arguments) where
    not_of : (i : ℕ) (r : PlainRecord) → slice_get rs i ≡ Some r → (i < length ns → get_or ns i 0 ≡ number → ⊥) → is_of procedure arguments r ≡ false
    not_of i r e h =
        false_if (is_of procedure arguments r)
        (λ t. h (subst (λ xs. i < length xs) (sym placed) (there_within rs i r e)) (ap (λ xs. get_or xs i 0) placed ∙ number_at rs i r e ∙ same_number r t ∙ sym is))

    -- none at the end of its number's places or behind
    pub none_behind : (end : ℕ) → IsEndOf ns (length ns) number end → NoneFrom procedure arguments rs end
    none_behind end h = λ i r l e. not_of i r e (h.none i l)

    -- none of those that were looked at, and so none from the next on
    pub none_before : (end place next : ℕ) (k : PlainRecord) → place ≡ end - 1 → 0 < end → NoneFrom procedure arguments rs end → slice_get rs place ≡ Some k → is_of procedure arguments k ≡ false
        → get_or ns place 0 ≡ number → IsEndOf ns place (get_or ns place 0) next → NoneFrom procedure arguments rs next
    none_before end place next k p some past there other same h = λ i r l e.
        elim (cases_lt i place) as (λ _. is_of procedure arguments r ≡ false) [
          | inl lt ↦ not_of i r e (λ w q. h.none i l lt (q ∙ sym same))
          | inr ge ↦
              elim (cases_eq i place) as (λ _. is_of procedure arguments r ≡ false) [
                | inl here ↦ (let one : Some k ≡ Some r = sym there ∙ ap (slice_get rs) (sym here) ∙ e in let it : k ≡ r = cc (one) in subst (λ x. is_of procedure arguments x ≡ false) it other)
                | inr far ↦ past i r (let less : end ≤ i = omega (arith, p, some, ge, far) in less) e
              ]
        ]

-- the place of the one that was found
pub found_place : (rs : List PlainRecord) (made k : PlainRecord) (place : ℕ) → map as_made rs ≡ rs → AreSingle rs → slice_get rs place ≡ Some k → is_of made.procedure made.arguments k ≡ true
    → place ≡ position_or_len (same_instance made) rs
found_place rs made k place s single there of =
    sym (ap (λ f. position_or_len (is_of f made.arguments) rs) (sym (of_procedure made.procedure made.arguments k of))
    ∙ ap (λ xs. position_or_len (is_of k.procedure xs) rs) (sym (of_arguments made.procedure made.arguments k of)) ∙ place_at_place rs place k s single there)

pub none_place : (rs : List PlainRecord) (test : PlainRecord → Bool) → find test rs ≡ None → length rs ≡ position_or_len test rs
none_place [] test e = refl
none_place (x ∷ xs) test e =
    elim (test x) as (λ b. cond b (Some x) (find test xs) ≡ None → suc (length xs) ≡ cond (not b) (1 + position_or_len test xs) 0) [
      | true ↦ λ f. absurd cc
      | false ↦ λ f. (let rest = none_place xs test f in let one : suc (length xs) ≡ 1 + position_or_len test xs = omega (arith, rest) in one)
    ] e

-- ---- put in

one_more : (n : ℕ) → 1 + n ≡ suc n
one_more n = omega arith

-- in the place of the one that is there
pub set_is_put : (rs : List PlainRecord) (r : PlainRecord) (place : ℕ) → place ≡ position_or_len (same_instance r) rs → place < length rs → slice_set rs place r ≡ put_record rs r
set_is_put [] r place e l = absurd (omega (arith, l))
set_is_put (x ∷ xs) r place e l =
    elim (same_instance r x) as (λ b. place ≡ cond (not b) (1 + position_or_len (same_instance r) xs) 0 → slice_set (x ∷ xs) place r ≡ cond b (r ∷ xs) (x ∷ put_record xs r)) [
      | true ↦ λ p. subst (λ i. slice_set (x ∷ xs) i r ≡ r ∷ xs) (sym p) refl
      | false ↦ λ p.
          (let next : place ≡ suc (position_or_len (same_instance r) xs) = p ∙ one_more (position_or_len (same_instance r) xs) in
          let within : position_or_len (same_instance r) xs < length xs = omega (arith, next, l) in
          subst (λ i. slice_set (x ∷ xs) i r ≡ x ∷ put_record xs r) (sym next) (ap (λ ys. x ∷ ys) (set_is_put xs r (position_or_len (same_instance r) xs) refl within)))
    ] e

-- or behind the others
pub push_is_put : (rs : List PlainRecord) (r : PlainRecord) (place : ℕ) → place ≡ position_or_len (same_instance r) rs → length rs ≤ place → rs ++ r ∷ [] ≡ put_record rs r
push_is_put [] r place e l = refl
push_is_put (x ∷ xs) r place e l =
    elim (same_instance r x) as (λ b. place ≡ cond (not b) (1 + position_or_len (same_instance r) xs) 0 → x ∷ (xs ++ r ∷ []) ≡ cond b (r ∷ xs) (x ∷ put_record xs r)) [
      | true ↦ λ p. absurd (omega (arith, p, l))
      | false ↦ λ p. ap (λ ys. x ∷ ys) (push_is_put xs r (position_or_len (same_instance r) xs) refl (omega (arith, p, l)))
    ] e

put_length : (rs : List PlainRecord) (r : PlainRecord) → length (put_record rs r) ≤ length rs + 1
put_length [] r = omega arith
put_length (s ∷ ss) r =
    elim (same_instance r s) as (λ b. length (cond b (r ∷ ss) (s ∷ put_record ss r)) ≤ suc (length ss) + 1) [
      | true ↦ omega arith
      | false ↦ (let h = put_length ss r in omega (arith, h))
    ]

pub put_longer : (rs now : List PlainRecord) (r : PlainRecord) → now ≡ put_record rs r → length now ≤ length rs + 1
put_longer rs now r e = rw e (put_length rs r)

-- the numbers stay where one takes the place of another
pub set_numbers : (rs : List PlainRecord) (r : PlainRecord) (place : ℕ) → place ≡ position_or_len (same_instance r) rs → place < length rs → map instance_number (slice_set rs place r) ≡ map instance_number rs
set_numbers [] r place e l = absurd (omega (arith, l))
set_numbers (x ∷ xs) r place e l =
    elim (same_instance r x) as (λ b. same_instance r x ≡ b → place ≡ cond (not b) (1 + position_or_len (same_instance r) xs) 0 → map instance_number (slice_set (x ∷ xs) place r) ≡ instance_number x ∷ map instance_number xs) [
      | true ↦ λ t p. subst (λ i. map instance_number (slice_set (x ∷ xs) i r) ≡ instance_number x ∷ map instance_number xs) (sym p) (ap (λ n. n ∷ map instance_number xs) (sym (same_number r.procedure r.arguments x t)))
      | false ↦ λ t p.
          (let next : place ≡ suc (position_or_len (same_instance r) xs) = p ∙ one_more (position_or_len (same_instance r) xs) in
          let within : position_or_len (same_instance r) xs < length xs = omega (arith, next, l) in
          subst (λ i. map instance_number (slice_set (x ∷ xs) i r) ≡ instance_number x ∷ map instance_number xs) (sym next)
          (ap (λ ys. instance_number x ∷ ys) (set_numbers xs r (position_or_len (same_instance r) xs) refl within)))
    ] refl e

push_numbers : (rs : List PlainRecord) (r : PlainRecord) → map instance_number rs ++ instance_number r ∷ [] ≡ map instance_number (rs ++ r ∷ [])
push_numbers [] r = refl
push_numbers (x ∷ xs) r = ap (λ ys. instance_number x ∷ ys) (push_numbers xs r)

pub pushed_numbers : (rs now : List PlainRecord) (ns ms : List ℕ) (r : PlainRecord) (number : ℕ) → ns ≡ map instance_number rs → number ≡ instance_number r → ms ≡ ns ++ number ∷ [] → now ≡ rs ++ r ∷ [] → ms ≡ map instance_number now
pushed_numbers rs now ns ms r number e n m p =
    m ∙ ap (λ xs. xs ++ number ∷ []) e ∙ ap (λ k. map instance_number rs ++ k ∷ []) n ∙ push_numbers rs r ∙ ap (map instance_number) (sym p)

-- ---- no two are of one procedure and arguments

-- whatever is of the same as one is apart from the others as that is
as_other : (r s y : PlainRecord) → same_instance r s ≡ true → same_instance s y ≡ false → same_instance r y ≡ false
as_other r s y t e = ap (λ f. is_of f r.arguments y) (sym (of_procedure r.procedure r.arguments s t)) ∙ ap (λ xs. is_of s.procedure xs y) (sym (of_arguments r.procedure r.arguments s t)) ∙ e

all_other : (r s : PlainRecord) (ys : List PlainRecord) → same_instance r s ≡ true → AllByRecursion (λ y. same_instance s y ≡ false) ys → AllByRecursion (λ y. same_instance r y ≡ false) ys
all_other r s [] t h = h
all_other r s (y ∷ ys) t h = (as_other r s y t h.0, all_other r s ys t h.1)

other_way : (r s : PlainRecord) → same_instance r s ≡ false → same_instance s r ≡ false
other_way r s e =
    false_if (same_instance s r)
    (λ t. (let itself : same_instance r s ≡ true = subst (λ (f : ℕ). is_of f r.arguments s ≡ true) (sym (of_procedure s.procedure s.arguments r t)) (subst (λ (xs : List ℤ). is_of s.procedure xs s ≡ true) (sym (of_arguments s.procedure s.arguments r t)) (of_itself s)) in
    true≢false (sym itself ∙ e)))

others_put : (x : PlainRecord) (rs : List PlainRecord) (r : PlainRecord) → same_instance x r ≡ false → AllByRecursion (λ y. same_instance x y ≡ false) rs → AllByRecursion (λ y. same_instance x y ≡ false) (put_record rs r)
others_put x [] r o h = (o, h)
others_put x (s ∷ ss) r o h =
    elim (same_instance r s) as (λ b. AllByRecursion (λ y. same_instance x y ≡ false) (cond b (r ∷ ss) (s ∷ put_record ss r))) [
      | true ↦ (o, h.1)
      | false ↦ (h.0, others_put x ss r o h.1)
    ]

pub single_put : (rs : List PlainRecord) (r : PlainRecord) → AreSingle rs → AreSingle (put_record rs r)
unfolding IsDistinct
single_put [] r h = (tt, tt)
single_put (s ∷ ss) r h =
    elim (same_instance r s) as (λ b. same_instance r s ≡ b → AreSingle (cond b (r ∷ ss) (s ∷ put_record ss r))) [
      | true ↦ λ t. (all_other r s ss t h.0, h.1)
      | false ↦ λ t. (others_put s ss r (other_way r s t) h.0, single_put ss r h.1)
    ] refl

map_one : (rs : List PlainRecord) (r : PlainRecord) → map instance_number rs ++ instance_number r ∷ [] ≡ map instance_number (rs ++ r ∷ [])
map_one [] r = refl
map_one (x ∷ xs) r = ap (λ ns. instance_number x ∷ ns) (map_one xs r)

pub numbers_behind : (rs new : List PlainRecord) (r : PlainRecord) (ns : List ℕ) (n : ℕ) → ns ≡ map instance_number rs → n ≡ instance_number r → new ≡ rs ++ r ∷ [] → ns ++ n ∷ [] ≡ map instance_number new
numbers_behind rs new r ns n are is put =
    ap (λ ms. ms ++ n ∷ []) are ∙ ap (λ m. map instance_number rs ++ m ∷ []) is ∙ map_one rs r ∙ ap (map instance_number) (sym put)

pub record_within : (rs : List PlainRecord) (place : ℕ) (k : PlainRecord) → slice_get rs place ≡ Some k → place < length rs
record_within [] place k e = absurd cc
record_within (x ∷ xs) zero k e = omega arith
record_within (x ∷ xs) (suc i) k e = (let h = record_within xs i k e in omega (arith, h))
