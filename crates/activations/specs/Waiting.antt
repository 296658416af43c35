-- Whether a strand that is joined to its left neighbour leaves a name waiting, by numbers.
use Rattle.std.specs.Prelude.{nat_lt, nat_eq, Bool, true, false, not, ◌&&◌, ◌||◌, List, [], ◌∷◌, take}
use Rattle.meaning.specs.Every.{every}
use Rattle.meaning.specs.Outcome.{Place}
use Rattle.meaning.specs.Trail.{child_of}
use Rattle.meaning.specs.SmallStep.{same_name}
use Rattle.evaluation.specs.declared.slot.Slot.{Slot}
use Rattle.evaluation.specs.declared.slot.Slot.TheVariants.{Unset, Waits, Has}
use Rattle.positions.specs.declared.work.Work.{Work}
use Rattle.positions.specs.declared.work.Work.TheVariants.{Block, Over}
use Rattle.positions.specs.declared.start.Start.{Start}
use Rattle.positions.specs.declared.start.Start.TheVariants.{Root, Behind}
use Rattle.positions.specs.Activations.{PlainActivation}
use Rattle.positions.specs.Strands.{PlainStrand, shorter}

-- the instance leaves before the other one: it is within it, or to the left of it
abbrev pub leaves_before : Place → Place → Bool
leaves_before [] n = false
leaves_before (a ∷ m) [] = true
leaves_before (a ∷ m) (b ∷ n) = nat_lt a b || (nat_eq a b && leaves_before m n)

-- the instance leaves after the beginning of the strand of that name
abbrev pub ends_after : Start → Place → Place → Bool
ends_after Root path n = true
ends_after (Behind depth child) path n = leaves_before (child_of (take depth path) child) n

-- no slot of a loop's instance waits
abbrev pub slots_that_wait : Work → List Slot → List Slot
slots_that_wait (Block q) slots = slots
slots_that_wait Over slots = slots
slots_that_wait _ slots = []

-- a slot of the instance of that name waits for a child that isn't the left strand's instance and ends after the left strand's beginning
abbrev pub still_waits : Start → Place → Place → Slot → Bool
still_waits start left n Unset = false
still_waits start left n (Waits j) = not (same_name (child_of n j) left) && ends_after start left (child_of n j)
still_waits start left n (Has v) = false

abbrev pub none_still_waits : Start → Place → Place → List Slot → Bool
none_still_waits start left n slots = every (λ s. not (still_waits start left n s)) slots

abbrev pub none_waits_in : Start → Place → Place → PlainActivation → Bool
none_waits_in start left n a = none_still_waits start left n (slots_that_wait a.work a.slots)

-- those under the instance of that name
abbrev pub none_waits_below : Start → Place → Place → List PlainActivation → Bool
none_waits_below start left over [] = true
none_waits_below start left over (a ∷ below) = none_waits_in start left (shorter over) a && none_waits_below start left (shorter over) below

-- joined to the left strand, which has ended, no name of the right one waits for a child that ends after the left one's beginning
abbrev pub leaves_none : PlainStrand → PlainStrand → Bool
leaves_none left right =
    none_waits_in left.start left.path right.path right.top && none_waits_below left.start left.path right.path right.below
