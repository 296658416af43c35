-- The numbers of records behind an edit, by the readings that don't hold any more and those that hold again.
use Rattle.std.proofs.Common.{◌≡◌, ◌⊎◌, inl, inr, ℕ, ◌+◌, ◌-◌, ◌≤◌, Bool, true, false, true≢false, cond, not, min, List, [], ◌∷◌, length, map, refl, sym, ◌∙◌, subst, arith}
use Rattle.std.specs.Prelude.{◌&&◌, nat_eq}
use Rattle.std.specs.List.{IsDistinct}
use Rattle.std.proofs.lemmas.Bool.Decides.{Decides-eqb, leb_tells}
use Rattle.meaning.specs.Every.{every}
use Rattle.meaning.specs.Tables.{Tables}
use Rattle.evaluation.specs.declared.note.Note.{Note}
use Rattle.record_theory.specs.Counts.{is_among, how_many, has_lapsed, lapsed_count}
use Rattle.record_theory.specs.InStep.{IsInStep}
use Rattle.record_numbers.specs.Stale.{most_number}
use Rattle.record_theory.specs.Numbers.{number_then, told_by, is_counted}
use Rattle.record_theory.specs.Record.{PlainRecord}
use Rattle.record_theory.specs.Same.{same_note}
use Rattle.record_theory.specs.Validity.{note_agrees}
use Rattle.record_theory.proofs.Counts.{count_few}
use Rattle.record_theory.proofs.InStep.{IsNumber, number_is, is_number}
use Rattle.record_theory.proofs.Members.{left_is, right_is, both}
use Rattle.record_theory.proofs.NumbersThen.{note_itself}
use Rattle.record_theory.proofs.Same.{note_is}
use Rattle.record_index.proofs.Counts.{count_changed}

-- ---- one number

least_is : (most k : ℕ) → k ≤ most → min most k ≡ k
least_is most k l = omega (arith, l)

least_most : (most k : ℕ) → most ≤ k → min most k ≡ most
least_most most k l = omega (arith, l)

-- a number is right, or the greatest where there may be as many
abbrev pub IsRight : ℕ → ℕ → ℕ → ℕ → Type 0
IsRight most long count n = (n ≡ count) ⊎ ((n ≡ most) × (most ≤ long))

capped_right : (most long count : ℕ) → count ≤ long → IsRight most long count (min most count)
capped_right most long count few =
    elim (leb_tells count most) as (λ _. IsRight most long count (min most count)) [
      | inl le ↦ inl (least_is most count le.1)
      | inr gt ↦ inr (least_most most count (omega (arith, gt.1)), omega (arith, gt.1, few))
    ]

module _ (most long counted count gone back : ℕ) (few_counted : counted ≤ long) (few : count ≤ long) (changed : count + back ≡ counted + gone) where
  right_then : (n : ℕ) (b : Bool) → nat_eq n most ≡ b → IsRight most long counted n → IsRight most long count (cond b most (min most ((n + gone) - back)))
  right_then n true e (inl h) =
      let is_most : n ≡ most = (Decides-eqb n most).0 e in
      inr (refl, omega (arith, is_most, h, few_counted))
  right_then n false e (inl h) =
      let left : (n + gone) - back ≡ count = omega (arith, h, changed) in
      subst (λ k. IsRight most long count (min most k)) (sym left) (capped_right most long count few)
  right_then n true e (inr h) = inr (refl, h.1)
  right_then n false e (inr h) = absurd (true≢false (sym ((Decides-eqb n most).1 h.0) ∙ e))

-- ---- each record

lost_is : (a b : Bool) → (a && not b) ≡ (not (not a) && not b)
lost_is true b = refl
lost_is false b = refl

won_is : (a b : Bool) → (b && not a) ≡ (not a && not (not b))
won_is true true = refl
won_is true false = refl
won_is false true = refl
won_is false false = refl

module _ (before now : Tables) (lost won : List Note) (is_lost : (n : Note) → is_among same_note lost n ≡ (note_agrees before n && not (note_agrees now n)))
    (is_won : (n : Note) → is_among same_note won n ≡ (note_agrees now n && not (note_agrees before n))) (distinct_lost : IsDistinct same_note lost) (distinct_won : IsDistinct same_note won) where
  lapsed_then : (reads : List Note) → lapsed_count now reads + how_many same_note won reads ≡ lapsed_count before reads + how_many same_note lost reads
  lapsed_then reads =
      count_changed same_note note_is note_itself (has_lapsed before) (has_lapsed now) lost won distinct_lost distinct_won
      (λ n. is_lost n ∙ lost_is (note_agrees before n) (note_agrees now n)) (λ n. is_won n ∙ won_is (note_agrees before n) (note_agrees now n)) reads

  number_is_then : (r : PlainRecord) → IsNumber before r.reads r.stale → IsNumber now r.reads (number_then lost won r.stale r.reads)
  number_is_then r h =
      right_then most_number (length r.reads) (lapsed_count before r.reads) (lapsed_count now r.reads) (how_many same_note lost r.reads) (how_many same_note won r.reads)
      (count_few same_note note_is note_itself (has_lapsed before) r.reads) (count_few same_note note_is note_itself (has_lapsed now) r.reads) (lapsed_then r.reads) r.stale (nat_eq r.stale most_number) refl h

  pub in_step_then : (rs : List PlainRecord) → IsInStep before rs → IsInStep now (map (told_by lost won) rs)
  in_step_then [] h = refl
  in_step_then (r ∷ rs) h =
      both (is_counted now (told_by lost won r)) (every (is_counted now) (map (told_by lost won) rs))
      (is_number now (told_by lost won r) (number_is_then r (number_is before r (left_is (is_counted before r) (every (is_counted before) rs) h))))
      (in_step_then rs (right_is (is_counted before r) (every (is_counted before) rs) h))
