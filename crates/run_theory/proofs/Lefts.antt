-- Where an instance stands among the names: what is to the left of its next child has been left, with all below it.
use Rattle.std.proofs.Common.{ℕ, ◌<◌, [], ◌∷◌, ◌++◌, ◌≡◌, ◌⊎◌, inl, inr, refl, arith}
use Rattle.meaning.specs.Outcome.{Place}
use Rattle.meaning.specs.Trail.{child_of}
use Rattle.meaning.specs.SmallStep.{Frame}
use Rattle.trail_theory.specs.Order.{LeavesBefore}

abbrev pub LeftOf : Place → Place → Type 0
LeftOf [] n = ⊥
LeftOf (a ∷ u) [] = ⊥
LeftOf (a ∷ u) (b ∷ n) = (a < b) ⊎ (a ≡ b) × LeftOf u n

-- an instance's next child
abbrev pub point : Frame → Place
point fr = child_of fr.instance fr.next

pub left_longer : (u n path : Place) → LeftOf u n → LeftOf u (n ++ path)
left_longer [] n path h = absurd h
left_longer (a ∷ u) [] path h = absurd h
left_longer (a ∷ u) (b ∷ n) path (inl l) = inl l
left_longer (a ∷ u) (b ∷ n) path (inr h) = inr (h.0, left_longer u n path h.1)

pub left_on : (u n : Place) (k k' : ℕ) (y path : Place) → k < k' → LeftOf u (n ++ k ∷ y) → LeftOf u (n ++ k' ∷ path)
left_on [] n k k' y path l h = absurd h
left_on (a ∷ u) [] k k' y path l (inl m) = inl (omega (arith, l, m))
left_on (a ∷ u) [] k k' y path l (inr h) = inl (omega (arith, l, h.0))
left_on (a ∷ u) (b ∷ n) k k' y path l (inl m) = inl m
left_on (a ∷ u) (b ∷ n) k k' y path l (inr h) = inr (h.0, left_on u n k k' y path l h.1)

pub left_sibling : (n : Place) (k k' : ℕ) (path : Place) → k < k' → LeftOf (n ++ k ∷ []) (n ++ k' ∷ path)
left_sibling [] k k' path l = inl l
left_sibling (a ∷ n) k k' path l = inr (refl, left_sibling n k k' path l)

pub left_prefix : (u path : Place) → LeftOf u (u ++ path) → ⊥
left_prefix [] path h = h
left_prefix (a ∷ u) path (inl l) = omega (arith, l)
left_prefix (a ∷ u) path (inr h) = left_prefix u path h.1

pub left_before : (u e path : Place) → LeftOf u (e ++ path) → LeavesBefore u e
left_before [] e path h = absurd h
left_before (a ∷ u) [] path h = tt
left_before (a ∷ u) (b ∷ e) path (inl l) = inl l
left_before (a ∷ u) (b ∷ e) path (inr h) = inr (h.0, left_before u e path h.1)

pub before_trans : (a b c : Place) → LeavesBefore a b → LeavesBefore b c → LeavesBefore a c
before_trans [] b c h k = absurd h
before_trans (x ∷ a) [] c h k = absurd k
before_trans (x ∷ a) (y ∷ b) [] h k = tt
before_trans (x ∷ a) (y ∷ b) (z ∷ c) (inl l) (inl m) = inl (omega (arith, l, m))
before_trans (x ∷ a) (y ∷ b) (z ∷ c) (inl l) (inr k) = inl (omega (arith, l, k.0))
before_trans (x ∷ a) (y ∷ b) (z ∷ c) (inr h) (inl m) = inl (omega (arith, h.0, m))
before_trans (x ∷ a) (y ∷ b) (z ∷ c) (inr h) (inr k) = inr (omega (arith, h.0, k.0), before_trans a b c h.1 k.1)
