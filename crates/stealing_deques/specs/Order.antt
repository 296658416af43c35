-- What a deque of continuations keeps.
use Rattle.std.specs.Prelude.{◌≡◌, ℕ, ◌+◌, ◌<◌, ◌==◌, Bool, true, false, List, [], ◌∷◌, ◌++◌, length, if◌then◌else◌, nat_lt, Option, Some, None}
use mathlib.Core.Option.{some}
use lib.ListN.{get_elem?}
use Rattle.stealing_deques.specs.declared.entry.Spot.{Spot}
use Rattle.stealing_deques.specs.declared.entry.PlainEntry.{PlainEntry}
use Rattle.stealing_deques.specs.declared.entry.PlainOwner.{PlainOwner}
use Rattle.stealing_deques.specs.declared.entry.Knowledge.{Knowledge}

abbrev pub spot : List ℕ → List ℕ → Spot
spot name since = record { name = name; since = since }

-- how often x stands in the list
abbrev pub times : ℕ → List ℕ → ℕ
times x [] = 0
times x (y ∷ ys) = (if y == x then 1 else 0) + times x ys

-- how often x is the number of an entry
abbrev pub count_held : ℕ → List PlainEntry → ℕ
count_held x [] = 0
count_held x (c ∷ cs) = (if c.number == x then 1 else 0) + count_held x cs

abbrev pub once_below : ℕ → ℕ → ℕ
once_below x n = if nat_lt x n then 1 else 0

-- the longer name begins with the other one
abbrev pub GoesOn : List ℕ → List ℕ → Type 0
GoesOn shorter longer = (more : List ℕ) × (longer ≡ shorter ++ more) × (0 < length more)

-- each entry's lowest instance is the child that the one in front of it waits for, the last one waits for `here`, and each place
-- is longer than the name of the lowest instance, with which it begins
abbrev pub IsChained : List PlainEntry → Spot → Type 0
IsChained [] here = Unit {0}
IsChained (c ∷ []) here = GoesOn c.to.name c.at.name × (c.at ≡ here)
IsChained (c ∷ d ∷ cs) here = GoesOn c.to.name c.at.name × (d.to ≡ c.at) × IsChained (d ∷ cs) here

-- bound to no spot there is no entry
abbrev pub EndsAt : List PlainEntry → Option Spot → Type 0
EndsAt cs None = length cs ≡ 0
EndsAt cs (Some here) = IsChained cs here

-- an owner that is bound to a spot is at that one
abbrev pub IsBoundTo : Option Spot → Spot → Type 0
IsBoundTo None there = Unit {0}
IsBoundTo (Some here) there = there ≡ here

abbrev pub FitsOwner : ℕ → ℕ → List ℕ → List PlainEntry → ℕ → Knowledge → Type 0
FitsOwner owner n popped items port v = v.owns ≡ true → (port ≡ owner) × (v.pushed ≡ n) × (v.popped ≡ popped) × EndsAt items v.here

abbrev pub FitsThief : ℕ → List PlainEntry → ℕ → Knowledge → Type 0
FitsThief thief stolen port v = v.steals ≡ true → (port ≡ thief) × (v.stolen ≡ stolen)

-- the entries were pushed one after another, the first of them last, and all before the push of that number
abbrev pub ComeBefore : ℕ → List PlainEntry → Type 0
ComeBefore n [] = Unit {0}
ComeBefore n (c ∷ cs) = (c.number < n) × ComeBefore c.number cs

-- the entries that are held, turned round, in front of what was stolen: the last push first
abbrev pub turned : List PlainEntry → List PlainEntry → List PlainEntry
turned [] taken = taken
turned (c ∷ cs) taken = turned cs (c ∷ taken)

-- each push has the next number, and each number below it is held or was taken, once; the entries stand in the order of places and of
-- their pushes, behind all that was stolen
abbrev pub IsInOrder : List PlainEntry → List Knowledge → Type 0
IsInOrder items views =
    (owner : ℕ) × (thief : ℕ) × (n : ℕ) × (popped : List ℕ) × (stolen : List PlainEntry)
    × ((x : ℕ) → (times x popped + count_held x stolen) + count_held x items ≡ once_below x n)
    × ((length popped + length stolen) + length items ≡ n)
    × ComeBefore n (turned items stolen)
    × ((port : ℕ) (v : Knowledge) → get_elem? views port ≡ some v → FitsOwner owner n popped items port v × FitsThief thief stolen port v)

abbrev pub knowing : Bool → Bool → ℕ → Option Spot → List ℕ → List PlainEntry → Knowledge
knowing owns steals pushed here popped stolen = record { owns = owns; steals = steals; pushed = pushed; here = here; popped = popped; stolen = stolen }

-- the two sides of what both ends know
abbrev pub owning : Knowledge → Option Spot → Knowledge
owning v here = knowing true false v.pushed here v.popped []

abbrev pub stealing : Knowledge → Knowledge
stealing v = knowing false true 0 None [] v.stolen

abbrev pub owner_of : ℕ → Knowledge → PlainOwner
owner_of number v = record { number = number; pushed = v.pushed; here = v.here; popped = v.popped }

-- what is known after a push, a pop and a steal
abbrev pub after_push : Knowledge → PlainEntry → Knowledge
after_push v c = record v { pushed = v.pushed + 1; here = Some c.at }

abbrev pub after_pop : Knowledge → PlainEntry → Knowledge
after_pop v c = record v { here = Some c.to; popped = c.number ∷ v.popped }

abbrev pub after_steal : Knowledge → PlainEntry → Knowledge
after_steal v c = record v { stolen = c ∷ v.stolen }

-- the fact holds of the one entry
abbrev pub IfOne : List PlainEntry → (PlainEntry → Type 0) → Type 0
IfOne [] P = Unit {0}
IfOne (c ∷ []) P = P c
IfOne (c ∷ d ∷ cs) P = Unit {0}

-- from front to back each place is a longer name, which begins with the place in front of it
abbrev pub PlacesRise : List PlainEntry → Type 0
PlacesRise [] = Unit {0}
PlacesRise (c ∷ []) = Unit {0}
PlacesRise (c ∷ d ∷ cs) = GoesOn c.at.name d.at.name × PlacesRise (d ∷ cs)

-- the entries stand in order, behind what was stolen, and with that each number below the count of pushes stands once
abbrev pub AreSeen : Knowledge → List PlainEntry → Type 0
AreSeen v items = PlacesRise items × EndsAt items v.here
    × ((stolen : List PlainEntry)
    × ((x : ℕ) → (times x v.popped + count_held x stolen) + count_held x items ≡ once_below x v.pushed)
    × ((length v.popped + length stolen) + length items ≡ v.pushed)
    × ComeBefore v.pushed (turned items stolen))

-- each number below the count of pushes is held or was taken, once
abbrev pub AreCounted : Knowledge → List PlainEntry → Type 0
AreCounted v items = ((x : ℕ) → (times x v.popped + count_held x v.stolen) + count_held x items ≡ once_below x v.pushed)
    × ((length v.popped + length v.stolen) + length items ≡ v.pushed)
