-- The order in which the trail's instances are left: by their names, children before their parent.
use Rattle.std.specs.Prelude.{◌<◌, List, [], ◌∷◌, ◌≡◌, ◌⊎◌}
use Rattle.meaning.specs.Outcome.{Log, Outcome, Place, Leaves}

abbrev pub In : {A : Type 0} → A → List A → Type 0
In x [] = ⊥
In x (y ∷ ys) = (x ≡ y) ⊎ In x ys

abbrev pub Every : {A : Type 0} → (A → Type 0) → List A → Type 0
Every P [] = Unit {0}
Every P (x ∷ xs) = P x × Every P xs

-- the first name's instance is left before the second's
abbrev pub LeavesBefore : Place → Place → Type 0
LeavesBefore [] c = ⊥
LeavesBefore (a ∷ p) [] = Unit {0}
LeavesBefore (a ∷ p) (b ∷ c) = (a < b) ⊎ (a ≡ b) × LeavesBefore p c

-- each instance that leaves is left before those that leave later on
abbrev pub AllLater : Place → Log → Type 0
AllLater n es = (c : Place) (v : Outcome) → In (Leaves c v) es → LeavesBefore n c

abbrev pub LeavesInOrder : Log → Type 0
LeavesInOrder [] = Unit {0}
LeavesInOrder (Leaves n v ∷ es) = AllLater n es × LeavesInOrder es
LeavesInOrder (e ∷ es) = LeavesInOrder es
