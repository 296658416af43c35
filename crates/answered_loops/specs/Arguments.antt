-- Arguments that read nothing: numbers and slots, of which one is a loop's variable.
use Rattle.std.specs.Prelude.{ℕ, zero, suc, nat_eq, ℤ, pos, Bool, true, false, not, ◌&&◌, List, [], ◌∷◌, map, slice_get}
use Rattle.linked_program.specs.Linked.{Linked, constant, slot}
use Rattle.evaluation.specs.declared.slot.Slot.{Slot}
use Rattle.evaluation.specs.Slots.{number_in}

-- a number, or a slot other than that
abbrev pub is_fixed : ℕ → Linked → Bool
is_fixed x (constant n) = true
is_fixed x (slot y) = not (nat_eq y x)
is_fixed x _ = false

abbrev pub are_fixed : ℕ → List Linked → Bool
are_fixed x [] = true
are_fixed x (e ∷ es) = is_fixed x e && are_fixed x es

abbrev pub is_slot : ℕ → Linked → Bool
is_slot x (slot y) = nat_eq y x
is_slot x _ = false

-- that slot at that place, and nowhere else
abbrev pub counts : ℕ → ℕ → List Linked → Bool
counts x place [] = false
counts x zero (e ∷ es) = is_slot x e && are_fixed x es
counts x (suc place) (e ∷ es) = is_fixed x e && counts x place es

abbrev pub number_over : List Slot → Linked → ℤ
number_over slots (constant n) = n
number_over slots (slot y) = number_in (slice_get slots y)
number_over slots _ = pos 0

-- their numbers over slots
abbrev pub numbers_over : List Slot → List Linked → List ℤ
numbers_over slots es = map (number_over slots) es
