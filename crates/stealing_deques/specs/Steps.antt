-- What a push, a pop and a steal leave.
use Rattle.std.specs.Prelude.{◌≡◌, ℕ, ◌+◌, ◌<◌, slice_index_or, ◌∷◌, [], List, length, Some, None}
use Rattle.stealing_deques.specs.declared.entry.Spot.{Spot}
use Rattle.stealing_deques.specs.declared.entry.PlainEntry.{PlainEntry}
use Rattle.stealing_deques.specs.declared.entry.PlainOwner.{PlainOwner}
use Rattle.stealing_deques.specs.declared.entry.PlainThief.{PlainThief}
use Rattle.stealing_deques.specs.Order.{PlacesRise, EndsAt, ComeBefore, turned, times, count_held, once_below}

-- one of some number was popped, and the owner has come to that spot
abbrev pub WasPopped : PlainOwner → Spot → PlainOwner → Type 0
WasPopped old there new = (number : ℕ) × (new ≡ record old { here = Some there; popped = number ∷ old.popped })

-- one that waits at that spot, and has that one as its lowest, was stolen: it was pushed after all that were stolen before it
abbrev pub WasStolen : PlainThief → Spot → Spot → PlainThief → Type 0
WasStolen old at to new =
    (number : ℕ) × (new ≡ record old { stolen = record { number = number; at = at; to = to } ∷ old.stolen }) × ComeBefore number old.stolen

-- so many entries stand there in order, behind what was stolen, and with that each number below the count of pushes stands once
abbrev pub HoldsInOrder : PlainOwner → ℕ → Type 0
HoldsInOrder o count =
    (items : List PlainEntry) × (length items ≡ count) × PlacesRise items × EndsAt items o.here
    × ((stolen : List PlainEntry)
    × ((x : ℕ) → (times x o.popped + count_held x stolen) + count_held x items ≡ once_below x o.pushed)
    × ((length o.popped + length stolen) + length items ≡ o.pushed)
    × ComeBefore o.pushed (turned items stolen))

abbrev pub unused_owner : ℕ → PlainOwner
unused_owner number = record { number = number; pushed = 0; here = None; popped = [] }

abbrev pub unused_thief : ℕ → PlainThief
unused_thief number = record { number = number; stolen = [] }

-- they are those of the numbers from 0 on
abbrev pub AreNumbered : {T : Type 0} → (ℕ → T) → List T → Type 0
AreNumbered {T} of ends = (number : ℕ) (d : T) → number < length ends → slice_index_or ends number d ≡ of number

-- each number below the count of pushes was popped or stolen, once
abbrev pub WereTakenOnce : PlainOwner → PlainThief → Type 0
WereTakenOnce o t = (x : ℕ) → times x o.popped + count_held x t.stolen ≡ once_below x o.pushed
