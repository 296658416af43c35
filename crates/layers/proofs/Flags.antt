-- Flags that are put up one by one.
use Rattle.std.proofs.Common.{◌≡◌, ℕ, zero, suc, ◌+◌, ◌<◌, Bool, true, false, ◌||◌, List, [], ◌∷◌, length, replicate, slice_set, refl, sym, ap, ◌∙◌, subst, arith, add-one, get_or}
use Rattle.positions.specs.Layers.{either}

-- the first i flags are up where they are up in one of the lists
abbrev pub raised : ℕ → List Bool → List Bool → List Bool
raised zero xs ys = xs
raised (suc i) [] ys = []
raised (suc i) (x ∷ xs) [] = x ∷ raised i xs []
raised (suc i) (x ∷ xs) (y ∷ ys) = (x || y) ∷ raised i xs ys

nothing_at : (i : ℕ) → get_or [] i false ≡ false
nothing_at zero = refl
nothing_at (suc i) = refl

or_true : (x : Bool) → (x || true) ≡ true
or_true true = refl
or_true false = refl

or_false : (x : Bool) → (x || false) ≡ x
or_false true = refl
or_false false = refl

next_up : (i : ℕ) (xs ys : List Bool) → get_or ys i false ≡ true → slice_set (raised i xs ys) i true ≡ raised (suc i) xs ys
next_up zero xs [] e = absurd cc
next_up (suc i) xs [] e = absurd cc
next_up zero [] (y ∷ ys) e = refl
next_up (suc i) [] (y ∷ ys) e = refl
next_up zero (x ∷ xs) (y ∷ ys) e = ap (λ b. b ∷ xs) (sym (ap (λ b. x || b) e ∙ or_true x))
next_up (suc i) (x ∷ xs) (y ∷ ys) e = ap (λ zs. (x || y) ∷ zs) (next_up i xs ys e)

next_down : (i : ℕ) (xs ys : List Bool) → get_or ys i false ≡ false → raised i xs ys ≡ raised (suc i) xs ys
next_down zero [] ys e = refl
next_down (suc i) [] ys e = refl
next_down zero (x ∷ xs) [] e = refl
next_down (suc i) (x ∷ xs) [] e = ap (λ zs. x ∷ zs) (next_down i xs [] (nothing_at i))
next_down zero (x ∷ xs) (y ∷ ys) e = ap (λ b. b ∷ xs) (sym (ap (λ b. x || b) e ∙ or_false x))
next_down (suc i) (x ∷ xs) (y ∷ ys) e = ap (λ zs. (x || y) ∷ zs) (next_down i xs ys e)

-- one flag more is up where it is up in the other list
pub raise_next : (i : ℕ) (xs ys zs : List Bool) → zs ≡ raised i xs ys → get_or ys i false ≡ true → slice_set zs i true ≡ raised (i + 1) xs ys
raise_next i xs ys zs e up = ap (λ fs. slice_set fs i true) e ∙ next_up i xs ys up ∙ ap (λ k. raised k xs ys) (sym (add-one i))

-- and none more where it isn't
pub keep_next : (i : ℕ) (xs ys zs : List Bool) → zs ≡ raised i xs ys → get_or ys i false ≡ false → zs ≡ raised (i + 1) xs ys
keep_next i xs ys zs e down = e ∙ next_down i xs ys down ∙ ap (λ k. raised k xs ys) (sym (add-one i))

pub all_raised : (xs ys : List Bool) → raised (length ys) xs ys ≡ either xs ys
all_raised [] [] = refl
all_raised (x ∷ xs) [] = refl
all_raised [] (y ∷ ys) = refl
all_raised (x ∷ xs) (y ∷ ys) = ap (λ zs. (x || y) ∷ zs) (all_raised xs ys)

-- ---- flags that are put down one by one

-- the first i flags are down
abbrev pub lowered : ℕ → List Bool → List Bool
lowered zero xs = xs
lowered (suc i) [] = []
lowered (suc i) (x ∷ xs) = false ∷ lowered i xs

next_lowered : (i : ℕ) (xs : List Bool) → i < length xs → slice_set (lowered i xs) i false ≡ lowered (suc i) xs
next_lowered i [] l = absurd (omega arith)
next_lowered zero (x ∷ xs) l = refl
next_lowered (suc i) (x ∷ xs) l = ap (λ zs. false ∷ zs) (next_lowered i xs (omega arith))

pub lower_next : (i : ℕ) (xs : List Bool) → i < length xs → slice_set (lowered i xs) i false ≡ lowered (i + 1) xs
lower_next i xs l = next_lowered i xs l ∙ ap (λ k. lowered k xs) (sym (add-one i))

pub all_lowered : (xs : List Bool) → lowered (length xs) xs ≡ replicate (length xs) false
all_lowered [] = refl
all_lowered (x ∷ xs) = ap (λ zs. false ∷ zs) (all_lowered xs)
