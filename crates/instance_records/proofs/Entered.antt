-- Two lists of two entries are the same where each entry is.
use Rattle.std.proofs.Common.{◌≡◌, ℕ, List, [], ◌∷◌, length, ap₂, arith}
use Rattle.std.specs.Prelude.{slice_index_or}

pub two_same : (d : ℕ × ℕ) (left right : List (ℕ × ℕ)) → length left ≡ 2 → length right ≡ 2
    → slice_index_or left 0 d ≡ slice_index_or right 0 d → slice_index_or left 1 d ≡ slice_index_or right 1 d → left ≡ right
two_same d [] right n m e f = absurd (omega (arith, n))
two_same d (a ∷ []) right n m e f = absurd (omega (arith, n))
two_same d (a ∷ b ∷ c ∷ left) right n m e f = absurd (omega (arith, n))
two_same d (a ∷ b ∷ []) [] n m e f = absurd (omega (arith, m))
two_same d (a ∷ b ∷ []) (x ∷ []) n m e f = absurd (omega (arith, m))
two_same d (a ∷ b ∷ []) (x ∷ y ∷ z ∷ right) n m e f = absurd (omega (arith, m))
two_same d (a ∷ b ∷ []) (x ∷ y ∷ []) n m e f = ap₂ (λ p q. p ∷ q ∷ []) e f
