-- Instances as plain values, by numbers.
use Rattle.std.specs.Prelude.{ℕ, ◌+◌, ◌≤◌, pos, ◌+ℤ◌, FitsSigned, Bool, false, List, [], ◌∷◌, Option, Some, None, slice_set}
use Rattle.std.specs.Int.Width.{w64}
use Rattle.evaluation.specs.declared.slot.Slot.{Slot}
use Rattle.positions.specs.declared.work.Position.{Position}
use Rattle.positions.specs.declared.work.Loop.{Loop}
use Rattle.positions.specs.declared.work.Share.{Share}
use Rattle.positions.specs.declared.work.Work.{Work}
use Rattle.positions.specs.declared.work.Work.TheVariants.{Block, Over, Halves, Second, Turns}
use Rattle.meaning.specs.Statements.{most_iterations}

-- an instance: how many may be nested in it, how many it has entered, its procedure's number, its slots, the places behind its
-- innermost block, what it has left; and of the one that it entered last whether that was spawned, and the slot for its value.
-- The slots of a loop's instance are those of the loop
pub record PlainActivation : Type 0 where
  pub left : ℕ
  pub children : ℕ
  pub procedure : ℕ
  pub slots : List Slot
  pub outer : List Position
  pub work : Work
  pub spawned : Bool
  pub into : Option ℕ

abbrev pub with_slot : Option ℕ → Slot → List Slot → List Slot
with_slot None s slots = slots
with_slot (Some x) s slots = slice_set slots x s

-- with that in that slot
abbrev pub bound : Option ℕ → Slot → PlainActivation → PlainActivation
bound x s a = record a { slots = with_slot x s a.slots }

-- with that left to do
abbrev pub at : Work → PlainActivation → PlainActivation
at w a = record a { work = w }

-- the place behind an instruction
abbrev pub next_of : Position → Position
next_of p = record { block = p.block; index = p.index + 1 }

-- after an entering, with that left to do
abbrev pub waiting : Bool → Option ℕ → Work → PlainActivation → PlainActivation
waiting spawned into w a = record a { children = a.children + 1; spawned = spawned; into = into; work = w }

-- an instance that begins
abbrev pub made : ℕ → List Slot → Work → ℕ → PlainActivation
made p slots w left = record { left = left; children = 0; procedure = p; slots = slots; outer = []; work = w; spawned = false; into = None }

-- a block's first instruction
abbrev pub first_of : ℕ → Position
first_of block = record { block = block; index = 0 }

-- inside a block of the statement at that place
abbrev pub inside : ℕ → Position → PlainActivation → PlainActivation
inside block p a = record a { work = Block (first_of block); outer = next_of p ∷ a.outer }

abbrev pub outside_by : List Position → PlainActivation → PlainActivation
outside_by [] a = record a { work = Over }
outside_by (p ∷ ps) a = record a { work = Block p; outer = ps }

-- behind its innermost block
abbrev pub outside : PlainActivation → PlainActivation
outside a = outside_by a.outer a

-- so few iterations from the first number on that their numbers fit
abbrev pub ShareFits : Loop → Share → Type 0
ShareFits l h = (h.first + h.count ≤ most_iterations) × FitsSigned w64 (l.low +ℤ pos (h.first + h.count))

-- the iterations that are left fit
abbrev pub WorkFits : Work → Type 0
WorkFits (Block p) = Unit {0}
WorkFits Over = Unit {0}
WorkFits (Halves l k h) = ShareFits l h
WorkFits (Second l k h) = ShareFits l h
WorkFits (Turns l h) = ShareFits l h
