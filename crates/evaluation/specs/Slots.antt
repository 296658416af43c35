-- An instance's slots: the numbers in them, those that an instance begins with, and what they are in the definitions.
use Rattle.std.specs.Prelude.{ℕ, ◌-◌, ℤ, pos, List, ◌++◌, map, replicate, length, take, Option, Some}
use Rattle.meaning.specs.Values.{Env}
use Rattle.meaning.specs.SmallStep as definitions
use Rattle.evaluation.specs.declared.slot.Slot.{Slot}
use Rattle.evaluation.specs.declared.slot.Slot.TheVariants.{Unset, Waits, Has}

-- the number in a slot, and 0 where there is none
abbrev pub number_in : Option Slot → ℤ
number_in (Some (Has v)) = v
number_in _ = pos 0

-- the first n of them, and then slots without a value up to n
abbrev pub padded : ℕ → List Slot → List Slot
padded n slots = take n slots ++ replicate (n - length slots) Unset

-- so many slots, the first of which have these values
abbrev pub slots_for : ℕ → List ℤ → List Slot
slots_for size vs = padded size (map Has vs)

-- a slot of the definitions
abbrev pub meant : Slot → definitions.Slot
meant Unset = definitions.unset
meant (Waits j) = definitions.waits j
meant (Has v) = definitions.has v

-- the values of names in the definitions
abbrev pub env_of : List Slot → Env
env_of slots = map definitions.seen (map meant slots)
