-- A loop of which records answer the iterations: what they are of, and the strand once they are answered.
use Rattle.std.specs.Prelude.{◌≡◌, ℕ, zero, suc, ◌+◌, ◌-◌, ◌≤◌, ◌==◌, nat_le, ℤ, pos, ◌+ℤ◌, Bool, true, false, ◌||◌, List, [], ◌∷◌, map}
use Rattle.std.specs.Prelude.{length, Some, None, slice_set}
use Rattle.meaning.specs.Elision.{depth_limit}
use Rattle.linked_program.specs.declared.code.Code.{Code}
use Rattle.linked_program.specs.CodeView.{expression, memo_of}
use Rattle.evaluation.specs.declared.slot.Slot.{Slot}
use Rattle.evaluation.specs.declared.slot.Slot.TheVariants.{Has}
use Rattle.evaluation.specs.Values.{values_at, pure}
use Rattle.record_theory.specs.Record.{PlainRecord}
use Rattle.record_theory.specs.Sums.{arguments_of_last}
use Rattle.positions.specs.declared.work.Loop.{Loop}
use Rattle.positions.specs.declared.work.Share.{Share}
use Rattle.positions.specs.declared.work.Work.{Work}
use Rattle.positions.specs.declared.work.Work.TheVariants.{Over, Second, Turns}
use Rattle.positions.specs.declared.phase.Phase.TheVariants.{Running, Leaving}
use Rattle.positions.specs.Setting.{Setting}
use Rattle.positions.specs.Activations.{PlainActivation, at, waiting}
use Rattle.positions.specs.Code.{PlainLoop, loop_at}
use Rattle.positions.specs.Layers.{PlainLayer, absorbing}
use Rattle.positions.specs.Tallies.{PlainTally, is_own}
use Rattle.positions.specs.Strands.{PlainStrand, entry_by}
use Rattle.positions.specs.Advance.{record_for, right_of}

-- ---- the records

module _ (setting : Setting) (j : PlainLoop) where
  -- the loop is over a memo procedure, and there is room to enter its iterations
  pub record IsOfMemo (left : ℕ) : Type 0 where
    pub memo : memo_of setting.codes j.callee ≡ true
    pub room : (left == 0) ≡ false

  module _ (slots : List Slot) (left : ℕ) where
    -- a record that is valid answers the iteration of that number, whose arguments read nothing
    pub record IsAnswer (v : ℤ) (r : PlainRecord) : Type 0 where
      pub values : values_at setting.tables (slice_set slots j.variable (Has v)) (map expression j.arguments) ≡ pure r.arguments
      pub found : record_for setting (depth_limit - (left - 1)) j.callee r.arguments ≡ Some r

    -- so do these, one after another, the iterations behind so many first ones
    abbrev pub AreAnswers : ℤ → ℕ → List PlainRecord → Type 0
    AreAnswers low i [] = Unit {0}
    AreAnswers low i (r ∷ rs) = IsAnswer (low +ℤ pos i) r × AreAnswers low (i + 1) rs

-- the iterations of the loop of that instance are of a memo procedure, and these records answer those behind so many first ones
pub record HasAnswers (setting : Setting) (l : Loop) (a : PlainActivation) (i : ℕ) (rs : List PlainRecord) : Type 0 where
  pub of_memo : IsOfMemo setting (loop_at setting.codes a.procedure l) a.left
  pub answers : AreAnswers setting (loop_at setting.codes a.procedure l) a.slots a.left l.low i rs

-- ---- what they leave

-- how many instances an iteration of a loop's instance is nested in, itself counted
abbrev pub iteration_depth : PlainActivation → ℕ
iteration_depth a = depth_limit - (a.left - 1)

-- a layer, and behind it what the records have of instances at that depth
abbrev pub absorbed : ℕ → List PlainRecord → PlainLayer → PlainLayer
absorbed d [] l = l
absorbed d (r ∷ rs) l = absorbed d rs (absorbing r d l)

-- so many instances more are answered
abbrev pub answered_more : ℕ → PlainTally → PlainTally
answered_more n t = record t { reused = t.reused + n }

-- the iterations behind the first n
abbrev pub behind_turns : ℕ → Share → Share
behind_turns n h = record { first = h.first + n; count = h.count - n }

-- the loop's instance after n iterations one by one
abbrev pub turned_to : ℕ → Loop → Share → PlainActivation → PlainActivation
turned_to zero l h a = at (Turns l h) a
turned_to (suc n) l h a = record a { children = a.children + suc n; spawned = false; into = None; work = Turns l (behind_turns (suc n) h) }

-- after two halves, the second of which has its slots
abbrev pub halved_to : PlainActivation → PlainActivation
halved_to a = record a { children = a.children + 2; slots = []; spawned = false; into = None; work = Over }

-- so many iterations are done one by one
abbrev pub is_by_turns : List Code → PlainActivation → Loop → ℕ → ℕ → Bool
is_by_turns codes a l k count = k == 0 || nat_le count (loop_at codes a.procedure l).grain

abbrev pub ended_by : Bool → Loop → Share → PlainActivation → PlainActivation
ended_by true l h a = turned_to h.count l h a
ended_by false l h a = halved_to a

-- the loop's instance once all its iterations are answered
abbrev pub ended : List Code → Loop → ℕ → Share → PlainActivation → PlainActivation
ended codes l k h a = ended_by (is_by_turns codes a l k h.count) l h a

-- what records of iterations leave of a strand, whose topmost instance is their loop's
abbrev pub with_answers : ℕ → List PlainRecord → PlainStrand → PlainStrand
with_answers d rs s = record s { layer = absorbed d rs s.layer; arguments = arguments_of_last s.arguments rs; tally = answered_more (length rs) s.tally }

-- the topmost instance is a loop's that has that left
abbrev pub with_work : Work → PlainActivation → PlainStrand → PlainStrand
with_work w a s = record s { top = at w a; phase = Running }

-- a half that records answer: it leaves
abbrev pub half_answered : List Code → Loop → ℕ → Share → List PlainRecord → PlainStrand → PlainStrand
half_answered codes l k h rs s = record (with_answers (iteration_depth s.top) rs s) { top = ended codes l k h s.top; phase = Leaving (pos 0) }

-- a half of which records answer the first half: the second one is next, which may be halved so many times
abbrev pub first_answered : Loop → ℕ → Share → List PlainRecord → PlainStrand → PlainStrand
first_answered l k h rs s = record (with_answers (iteration_depth s.top) rs s) { top = waiting true None (Second l k (right_of h)) s.top; phase = Running }

-- the first of the iterations that are left one by one are answered
abbrev pub turns_answered : Loop → Share → List PlainRecord → PlainStrand → PlainStrand
turns_answered l h rs s = record (with_answers (iteration_depth s.top) rs s) { top = turned_to (length rs) l h s.top; phase = Running }

-- the implicit sync of the topmost instance, and of those above it, is passed and closes no layer
abbrev pub IsInside : PlainStrand → Type 0
IsInside s = (path : List ℕ) → length s.path ≤ length path → (entry_by s.start path ≡ false) × (is_own s.tally.opened (length path) ≡ false)
