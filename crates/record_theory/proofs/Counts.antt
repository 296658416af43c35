-- Whether any of a list pass, by how many different ones do.
use Rattle.std.proofs.Common.{◌≡◌, ℕ, suc, ◌≤◌, Bool, true, false, true≢false, cond, not, List, [], ◌∷◌, length, refl, sym, ap, ◌∙◌, arith}
use Rattle.std.specs.Prelude.{◌&&◌, ◌||◌}
use Rattle.meaning.specs.Every.{every}
use Rattle.record_theory.specs.Counts.{is_among, count_once}
use Rattle.record_theory.proofs.Members.{left_is, right_is}

-- one more, where it counts
abbrev pub more : Bool → ℕ → ℕ
more b k = cond b (suc k) k

module _ {A : Type 0} (same : A → A → Bool) (is : (a b : A) → same a b ≡ true → a ≡ b) (itself : (a : A) → same a a ≡ true) where
  -- what holds of all of a list holds of each that is among them
  pub among_passes : (q : A → Bool) (xs : List A) (x : A) → every q xs ≡ true → is_among same xs x ≡ true → q x ≡ true
  among_passes q [] x e m = absurd (true≢false (sym m))
  among_passes q (y ∷ ys) x e m =
      elim (same x y) as (λ b. same x y ≡ b → b || is_among same ys x ≡ true → q x ≡ true) [
        | true ↦ λ s _. ap q (is x y s) ∙ left_is (q y) (every q ys) e
        | false ↦ λ s r. among_passes q ys x (right_is (q y) (every q ys) e) r
      ] refl m

  -- where none counts none passes: one that passes and is among the others passes there too
  pub count_none : (p : A → Bool) (xs : List A) → count_once same p xs ≡ 0 → every (λ x. not (p x)) xs ≡ true
  count_none p [] e = refl
  count_none p (x ∷ xs) e =
      elim (p x) as (λ b. p x ≡ b → more (b && not (is_among same xs x)) (count_once same p xs) ≡ 0 → not b && every (λ y. not (p y)) xs ≡ true) [
        | false ↦ λ _ c. count_none p xs c
        | true ↦ λ passes c.
            elim (is_among same xs x) as (λ m. is_among same xs x ≡ m → more (not m) (count_once same p xs) ≡ 0 → not true && every (λ y. not (p y)) xs ≡ true) [
              | false ↦ λ _ n. absurd (omega (arith, n))
              | true ↦ λ m n.
                  (let none = among_passes (λ y. not (p y)) xs x (count_none p xs n) m in
                  absurd (true≢false (sym (rw passes at none))))
            ] refl c
      ] refl e

  pub none_counts : (p : A → Bool) (xs : List A) → every (λ x. not (p x)) xs ≡ true → count_once same p xs ≡ 0
  none_counts p [] e = refl
  none_counts p (x ∷ xs) e =
      elim (p x) as (λ b. not b && every (λ y. not (p y)) xs ≡ true → more (b && not (is_among same xs x)) (count_once same p xs) ≡ 0) [
        | true ↦ λ f. absurd (true≢false (sym f))
        | false ↦ λ f. none_counts p xs f
      ] e

  pub count_few : (p : A → Bool) (xs : List A) → count_once same p xs ≤ length xs
  count_few p [] = omega arith
  count_few p (x ∷ xs) =
      let few = count_few p xs in
      elim (p x && not (is_among same xs x)) as (λ b. more b (count_once same p xs) ≤ suc (length xs)) [
        | true ↦ omega (arith, few)
        | false ↦ omega (arith, few)
      ]
