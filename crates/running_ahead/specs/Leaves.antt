-- Iterations of a loop over a memo procedure that are recorded at once: what they do to a strand, over whose loop's instance they are recorded.
use Rattle.std.specs.Prelude.{◌≡◌, ℕ, zero, suc, ◌+◌, ◌==◌, ℤ, pos, ◌+ℤ◌, false, List, [], ◌∷◌, ◌++◌, length, None}
use Rattle.evaluation.specs.declared.slot.Slot.{Slot}
use Rattle.positions.specs.declared.phase.Phase.{Phase}
use Rattle.positions.specs.declared.phase.Phase.TheVariants.{Running}
use Rattle.positions.specs.declared.work.Loop.{Loop}
use Rattle.positions.specs.declared.work.Share.{Share}
use Rattle.positions.specs.declared.work.Work.TheVariants.{Turns}
use Rattle.positions.specs.Setting.{Setting}
use Rattle.positions.specs.Activations.{PlainActivation, waiting}
use Rattle.positions.specs.Layers.{PlainLayer}
use Rattle.positions.specs.Strands.{PlainStrand, entry_by}
use Rattle.positions.specs.Tallies.{PlainTally}
use Rattle.positions.specs.Advance.{rest_of}
use Rattle.running_ahead.specs.Stepped.{IsStepped}

-- what they change beside that instance: the topmost layer, what is counted and recorded, and the arguments of the last one
pub record Gathered : Type 0 where
  pub layer : PlainLayer
  pub tally : PlainTally
  pub arguments : List ℤ

abbrev pub gathered_by : PlainLayer → PlainTally → List ℤ → Gathered
gathered_by l t xs = record { layer = l; tally = t; arguments = xs }

abbrev pub gathered_of : PlainStrand → List ℤ → Gathered
gathered_of s xs = gathered_by s.layer s.tally xs

-- a strand that has it, and one with that topmost instance, at a phase
abbrev pub gathering : Gathered → PlainStrand → PlainStrand
gathering x s = record s { layer = x.layer; arguments = x.arguments; tally = x.tally }

abbrev pub gathered : Phase → PlainActivation → Gathered → PlainStrand → PlainStrand
gathered phase a x s = record s { layer = x.layer; top = a; phase = phase; arguments = x.arguments; tally = x.tally }

-- the strand begins in no instance above the topmost one
abbrev pub IsAmid : PlainStrand → Type 0
IsAmid s = (n : ℕ) (ns : List ℕ) → entry_by s.start (s.path ++ n ∷ ns) ≡ false

-- the iteration of that number is recorded, and goes back to its loop's instance, whatever instance that is of a procedure with those slots
-- and so many levels below it
abbrev pub IsRecorded : Setting → Loop → ℕ → List Slot → ℕ → ℕ → Gathered → Gathered → Type 0
IsRecorded setting l p slots left i x y = (a : PlainActivation) (h : Share)
    → a.procedure ≡ p → a.slots ≡ slots → a.left ≡ left → a.work ≡ Turns l h → h.first ≡ i → (h.count == 0) ≡ false
    → (s : PlainStrand) → IsAmid s → IsStepped setting (gathered Running a x s) (gathered Running (waiting false None (Turns l (rest_of h)) a) y s)

-- so many iterations from that one on are, one after another
pub data AreRecorded (setting : Setting) (l : Loop) (p : ℕ) (slots : List Slot) (left : ℕ) (i : ℕ) (x : Gathered) : ℕ → Gathered → Type 0 where
  none : AreRecorded setting l p slots left i x zero x
  more : (n : ℕ) (y z : Gathered) → AreRecorded setting l p slots left i x n y → z.tally.opened ≡ y.tally.opened → IsRecorded setting l p slots left (i + n) y z
      → AreRecorded setting l p slots left i x (suc n) z

-- the arguments of the last of so many iterations
abbrev pub arguments_then : ℕ → Loop → Share → List ℤ → List ℤ
arguments_then zero l h xs = xs
arguments_then (suc n) l h xs = (l.low +ℤ pos (h.first + n)) ∷ []

-- the strand comes so far by small steps, and the layers below the topmost one stay
pub record IsRecordedAhead (setting : Setting) (s t : PlainStrand) : Type 0 where
  pub steps : IsStepped setting s t
  pub lower : t.lower ≡ s.lower

-- memory was refused when an iteration's layer became a record: that lies above the loop's layer, which has other values
pub record IsRefusedLeaf (s t : PlainStrand) : Type 0 where
  pub below : PlainLayer
  pub lower : t.lower ≡ below ∷ s.lower
  pub below_kinds : below.kinds ≡ s.layer.kinds
  pub kinds : t.layer.kinds ≡ s.layer.kinds
  pub opened : length t.tally.opened ≡ suc (length s.tally.opened)
  pub phase : t.phase ≡ s.phase
