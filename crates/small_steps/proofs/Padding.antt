-- Slots that are put in one by one: those with values, and behind them those without.
use Rattle.std.proofs.Common.{◌≡◌, ◌∙◌, ℕ, zero, suc, ◌+◌, ◌-◌, ◌<◌, ◌≤◌, ℤ, List, [], ◌∷◌, ◌++◌, length, map, drop, get_or, replicate, take, refl, sym, ap, arith, append_assoc, append-nil}
use Rattle.std.proofs.lemmas.List.{drop_more, drop_all}
use Rattle.evaluation.specs.declared.slot.Slot.{Slot}
use Rattle.evaluation.specs.declared.slot.Slot.TheVariants.{Has, Unset}
use Rattle.evaluation.specs.Slots.{padded}

pub padded_more : (n : ℕ) (xs : List Slot) → length xs < n → padded n (xs ++ Unset ∷ []) ≡ padded n xs
padded_more zero xs l = absurd (omega arith)
padded_more (suc zero) [] l = refl
padded_more (suc (suc n)) [] l =
    let one : suc (suc n) - 1 ≡ suc n = omega arith in
    let none : suc (suc n) - 0 ≡ suc (suc n) = omega arith in
    ap (λ (k : ℕ). Unset ∷ replicate k Unset) one ∙ ap (λ (k : ℕ). replicate k Unset) (sym none)
padded_more (suc n) (x ∷ xs) l =
    let ys : List Slot = xs ++ Unset ∷ [] in
    let more : suc n - suc (length ys) ≡ n - length ys = omega arith in
    let before : suc n - suc (length xs) ≡ n - length xs = omega arith in
    ap (λ (k : ℕ). x ∷ (take n ys ++ replicate k Unset)) more
    ∙ ap (λ (zs : List Slot). x ∷ zs) (padded_more n xs (omega arith))
    ∙ ap (λ (k : ℕ). x ∷ (take n xs ++ replicate k Unset)) (sym before)

module _ (n : ℕ) (xs : List Slot) (vs : List ℤ) (i : ℕ) (whole : List Slot) (so_far : whole ≡ padded n (xs ++ map Has (drop i vs))) where
  -- one value more stands among the slots
  pub padded_value : (d : ℤ) (more : List Slot) → i < length vs → more ≡ xs ++ Has (get_or vs i d) ∷ [] → whole ≡ padded n (more ++ map Has (drop (i + 1) vs))
  padded_value d more l is =
      so_far ∙ ap (λ ws. padded n (xs ++ map Has ws)) (drop_more vs i d l)
      ∙ ap (padded n) (sym (append_assoc xs (Has (get_or vs i d) ∷ []) (map Has (drop (i + 1) vs))))
      ∙ ap (λ ys. padded n (ys ++ map Has (drop (i + 1) vs))) (sym is)

  -- all values do
  pub padded_values : length vs ≤ i → whole ≡ padded n xs
  padded_values l = so_far ∙ ap (λ ws. padded n (xs ++ map Has ws)) (drop_all i vs l) ∙ ap (padded n) (append-nil xs)
