-- Iterations of a half that is called, one after another, none of which stands on the strand.
use Rattle.std.specs.Prelude.{◌≡◌, ℕ, zero, suc, pos, ◌+◌, ◌==◌, ◌<◌, ◌≤◌, Bool, true, false, List, None, length}
use Rattle.evaluation.specs.declared.slot.Slot.{Slot}
use Rattle.positions.specs.declared.work.Loop.{Loop}
use Rattle.positions.specs.declared.work.Share.{Share}
use Rattle.positions.specs.declared.work.Work.TheVariants.{Halves, Turns}
use Rattle.positions.specs.declared.phase.Phase.{Phase}
use Rattle.positions.specs.declared.phase.Phase.TheVariants.{Running, Leaving}
use Rattle.positions.specs.Setting.{Setting}
use Rattle.positions.specs.Activations.{PlainActivation, at, waiting}
use Rattle.positions.specs.Layers.{PlainLayer}
use Rattle.positions.specs.Strands.{PlainStrand, entry_by}
use Rattle.positions.specs.Tallies.{is_own}
use Rattle.positions.specs.Advance.{rest_of}
use Rattle.own_statements.specs.Paths.{HasRoomAbove, stacked, topped}
use Rattle.running_ahead.specs.declared.came.Chained.{Chained}
use Rattle.running_ahead.specs.declared.came.Chained.TheVariants.{Whole, Before, Within}
use Rattle.running_ahead.specs.Ahead.{IsAhead, TurnsOn}

-- the iteration of that number goes back to its loop's instance, whatever instance that is of a procedure with those slots and so many
-- levels below it
abbrev pub IsTurn : Setting → Loop → ℕ → List Slot → ℕ → ℕ → PlainLayer → PlainLayer → Type 0
IsTurn setting l p slots left i u v = (a : PlainActivation) (h : Share)
    → a.procedure ≡ p → a.slots ≡ slots → a.left ≡ left → a.work ≡ Turns l h → h.first ≡ i → (h.count == 0) ≡ false
    → TurnsOn setting a u (waiting false None (Turns l (rest_of h)) a) v

-- it has more to do then, and stands above it with so many that it has called
abbrev pub IsStay : Setting → Loop → ℕ → List Slot → ℕ → ℕ → PlainLayer → ℕ → List PlainActivation → PlainLayer → Type 0
IsStay setting l p slots left i u n xs v = (a : PlainActivation) (h : Share)
    → a.procedure ≡ p → a.slots ≡ slots → a.left ≡ left → a.work ≡ Turns l h → h.first ≡ i → (h.count == 0) ≡ false
    → (s : PlainStrand) → HasRoomAbove s → IsAhead setting (topped Running a u s) (stacked (suc n) (waiting false None (Turns l (rest_of h)) a) xs v s)

-- so many iterations from that one on go back, one after another
pub data AreTurns (setting : Setting) (l : Loop) (p : ℕ) (slots : List Slot) (left : ℕ) (i : ℕ) (u : PlainLayer) : ℕ → PlainLayer → Type 0 where
  none : AreTurns setting l p slots left i u zero u
  more : (n : ℕ) (v w : PlainLayer) → AreTurns setting l p slots left i u n v → IsTurn setting l p slots left (i + n) v w
      → AreTurns setting l p slots left i u (suc n) w

-- as many iterations as a grain, doubled so many times
abbrev pub reach : ℕ → ℕ → ℕ
reach zero grain = grain
reach (suc r) grain = reach r grain + reach r grain

-- the implicit syncs of the topmost instance and of those above it are passed and close no layer
abbrev pub IsClear : PlainStrand → Type 0
IsClear s = (path : List ℕ) → length s.path ≤ length path → (entry_by s.start path ≡ false) × (is_own s.tally.opened (length path) ≡ false)

-- ---- what came of so many iterations

-- those before it go back, and it has more to do
pub record IsWithin (setting : Setting) (l : Loop) (p : ℕ) (slots : List Slot) (left : ℕ) (i n over : ℕ) (u : PlainLayer)
    (xs : List PlainActivation) (v : PlainLayer) : Type 0 where
  pub before : PlainLayer
  pub turns : AreTurns setting l p slots left i u n before
  pub stay : IsStay setting l p slots left (i + n) before over xs v

-- all go back; or the first ones, and then nothing is done; or the first ones, and the next one stands above the loop's instance
abbrev pub ChainsTo : Setting → Loop → PlainActivation → ℕ → ℕ → Chained → PlainLayer → List PlainActivation → PlainLayer → Type 0
ChainsTo setting l a i most Whole u xs v = AreTurns setting l a.procedure a.slots a.left i u most v
ChainsTo setting l a i most (Before n) u xs v = AreTurns setting l a.procedure a.slots a.left i u n v
ChainsTo setting l a i most (Within n over) u xs v = IsWithin setting l a.procedure a.slots a.left i n over u xs v

-- where not all go back, these are fewer, and at most so many stand above the next one
abbrev pub IsFewer : ℕ → ℕ → Chained → Type 0
IsFewer most above Whole = Unit {0}
IsFewer most above (Before n) = n < most
IsFewer most above (Within n over) = (n < most) × (over ≤ above)

-- ---- halves that are put on the strand

-- an instance of a loop that has such a half left
abbrev pub halves_now : Loop → ℕ → Share → PlainActivation → PlainLayer → PlainStrand → PlainStrand
halves_now l k h a u s = topped Running (at (Halves l k h) a) u s

-- a strand under other instances
abbrev pub under : List ℕ → List PlainActivation → PlainStrand → PlainStrand
under path below s = record s { path = path; below = below }

-- from an instance with a half left, whose first m iterations are over, to one with a part of it left, of which the first n are
pub record Reaches (setting : Setting) (l : Loop) (r : ℕ) (s : PlainStrand) (k : ℕ) (h : Share) (a : PlainActivation) (u v : PlainLayer)
    (path : List ℕ) (below : List PlainActivation) (m j : ℕ) (part : Share) (b : PlainActivation) (n : ℕ) : Type 0 where
  pub between : PlainLayer
  pub ahead : IsAhead setting (halves_now l k h a u s) (halves_now l j part b between (under path below s))
  pub turns : AreTurns setting l b.procedure b.slots b.left part.first between n v
  pub clear : IsClear (under path below s)
  pub number : part.first + n ≡ h.first + m
  pub procedure : b.procedure ≡ a.procedure
  pub slots : b.slots ≡ a.slots
  pub left : b.left ≡ a.left

-- ---- a half that is done in one go

abbrev pub half_phase : Bool → Phase
half_phase true = Leaving (pos 0)
half_phase false = Running

-- in whatever strand: it leaves, or one of its parts goes on
abbrev pub HalfTo : Setting → Bool → PlainActivation → PlainLayer → List ℕ → List PlainActivation
    → PlainActivation → PlainLayer → List ℕ → List PlainActivation → Type 0
HalfTo setting over a u path below b v new_path new_below = (s : PlainStrand) → IsClear s → s.path ≡ path → s.below ≡ below
    → IsAhead setting (topped Running a u s) (topped (half_phase over) b v (under new_path new_below s))
