-- What was held by hulls so far, and what the next one holds.
use Rattle.std.proofs.Common.{◌≡◌, ◌⊎◌, inl, inr, ◌<◌, ◌≤◌, ◌+◌, ℕ, zero, suc, true, List, [], Some, sym, ◌∙◌, subst, arith, get_or}
use Rattle.std.proofs.lemmas.Option.{get_or_from_slice_get}
use Rattle.std.specs.Prelude.{slice_get}
use Rattle.evaluation.specs.declared.note.Note.{Note}
use Rattle.instance_records.specs.declared.spans.Span.{Span}
use Rattle.instance_records.specs.Spans.{is_covered_by}

pub below : (n k : ℕ) → (n < k) ⊎ (k ≤ n)
below n zero = inr (omega arith)
below zero (suc k) = inl (omega arith)
below (suc n) (suc k) =
    elim (below n k) as (λ _. (suc n < suc k) ⊎ (suc k ≤ suc n)) [
      | inl l ↦ inl (omega (arith, l))
      | inr l ↦ inr (omega (arith, l))
    ]

-- what was held by hulls so far, and what the next one holds
pub one_more_joined : (hulls : List (List Span)) (k : ℕ) (hull old new : List Span) → hull ≡ get_or hulls k hull → ((note : Note) → is_covered_by old note ≡ true → is_covered_by new note ≡ true)
    → ((note : Note) → is_covered_by hull note ≡ true → is_covered_by new note ≡ true)
    → ((i : ℕ) (g : List Span) (note : Note) → i < k → slice_get hulls i ≡ Some g → is_covered_by g note ≡ true → is_covered_by old note ≡ true)
    → (i : ℕ) (g : List Span) (note : Note) → i < k + 1 → slice_get hulls i ≡ Some g → is_covered_by g note ≡ true → is_covered_by new note ≡ true
one_more_joined hulls k hull old new at kept put so_far i g note upto there e =
    elim (below i k) as (λ _. is_covered_by new note ≡ true) [
      | inl less ↦ kept note (so_far i g note less there e)
      | inr more ↦
          (let here : i ≡ k = omega (arith, more, upto) in
          let is : get_or hulls k hull ≡ g = get_or_from_slice_get hulls k g hull (subst (λ (n : ℕ). slice_get hulls n ≡ Some g) here there) in
          put note (subst (λ (x : List Span). is_covered_by x note ≡ true) (sym (at ∙ is)) e))
    ]
