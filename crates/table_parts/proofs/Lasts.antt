-- The last of a list of rows with their numbers.
use Rattle.std.proofs.Common.{◌≡◌, ◌-◌, ℕ, zero, suc, ℤ, List, [], ◌∷◌, Some, refl, ap, subst, arith, length}
use Rattle.std.specs.Prelude.{slice_get}
use Rattle.table_parts.specs.Ends.{last_of}

-- a number in a list of numbers, which holds nothing beside it
abbrev Numbered : Type 0
Numbered = ℤ × Unit {0}

last_there : (es : List Numbered) (i : ℕ) (e : Numbered) → length es ≡ suc i → slice_get es i ≡ Some e → last_of es ≡ Some e.0
last_there [] i e long at = absurd cc
last_there (f ∷ []) zero e long at =
    let first : f ≡ e = cc in
    ap (λ (d : Numbered). Some d.0) first
last_there (f ∷ []) (suc i) e long at = absurd (omega (arith, long))
last_there (f ∷ g ∷ es) zero e long at = absurd (omega (arith, long))
last_there (f ∷ g ∷ es) (suc i) e long at = last_there (g ∷ es) i e (omega (arith, long)) at

pub last_number : (es : List Numbered) (e : Numbered) → slice_get es (length es - 1) ≡ Some e → last_of es ≡ Some e.0
last_number [] e at = absurd cc
last_number (f ∷ es) e at =
    let before : suc (length es) - 1 ≡ length es = omega arith in
    last_there (f ∷ es) (length es) e refl (subst (λ (k : ℕ). slice_get (f ∷ es) k ≡ Some e) before at)
