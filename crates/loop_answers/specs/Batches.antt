-- Batches that answer a loop's iterations: the records that they stand for, and what they leave.
use Rattle.std.specs.Prelude.{◌≡◌, ℕ, ◌+◌, ◌<◌, ◌≤◌, ℤ, pos, ◌+ℤ◌, Bool, true, List, [], ◌∷◌, map, length, None, slice_set, All}
use Rattle.std.specs.List.{flat_map}
use Rattle.monoid_laws.specs.declared.Kind.{Kind}
use Rattle.meaning.specs.Tables.{Tables}
use Rattle.linked_program.specs.Linked.{Linked}
use Rattle.evaluation.specs.declared.slot.Slot.{Slot}
use Rattle.evaluation.specs.declared.slot.Slot.TheVariants.{Has}
use Rattle.evaluation.specs.Values.{values_at, pure}
use Rattle.rerun_records.specs.declared.batch.Batch.{Batch}
use Rattle.rerun_records.specs.Sums.{IsSumFor}
use Rattle.record_theory.specs.Record.{PlainRecord}
use Rattle.record_theory.specs.Named.{AreValuesFrom}
use Rattle.record_theory.specs.Sums.{arguments_of_last}
use Rattle.positions.specs.declared.work.Loop.{Loop}
use Rattle.positions.specs.declared.work.Share.{Share}
use Rattle.positions.specs.declared.work.Work.TheVariants.{Second}
use Rattle.positions.specs.declared.phase.Phase.TheVariants.{Running, Leaving}
use Rattle.positions.specs.Setting.{Setting}
use Rattle.positions.specs.Activations.{PlainActivation, waiting}
use Rattle.positions.specs.Code.{PlainLoop, loop_at}
use Rattle.positions.specs.Strands.{PlainStrand}
use Rattle.positions.specs.Advance.{right_of}
use Rattle.answered_loops.specs.Answered.{IsOfMemo, AreAnswers, absorbed, answered_more, iteration_depth, turned_to, halved_to}
use Rattle.answered_loops.specs.Arguments.{counts}

-- ---- what they stand for

-- for each batch the record that has what its instances have together
abbrev pub sums_of : List Batch → List PlainRecord
sums_of bs = map (λ b. b.sum.now) bs

-- these have values of the reducers' kinds
abbrev pub SumsHaveValues : List Kind → List Batch → Type 0
SumsHaveValues kinds bs = All (λ s. AreValuesFrom 0 kinds s.contribution) (sums_of bs)

abbrev pub instances_in : List Batch → ℕ
instances_in [] = 0
instances_in (b ∷ bs) = b.count + instances_in bs

-- the batches have what these records have, each batch a part; what they have read where that is kept
abbrev pub AreSums : Bool → List Kind → List (List PlainRecord) → List Batch → Type 0
AreSums keeps kinds [] [] = Unit {0}
AreSums keeps kinds (rs ∷ parts) (b ∷ bs) = IsSumFor keeps kinds rs b.sum.now × (length rs ≡ b.count) × AreSums keeps kinds parts bs
AreSums keeps kinds _ _ = ⊥

abbrev pub all_in : List (List PlainRecord) → List PlainRecord
all_in parts = flat_map (λ rs. rs) parts

-- they answer iterations, those behind so many first ones, for a layer that keeps readings or not
pub record AreBatches (setting : Setting) (keeps : Bool) (j : PlainLoop) (slots : List Slot) (left : ℕ) (low : ℤ) (i : ℕ) (bs : List Batch) : Type 0 where
  pub parts : List (List PlainRecord)
  pub sums : AreSums keeps setting.kinds parts bs
  pub answers : AreAnswers setting j slots left low i (all_in parts)

-- the iterations of the loop of that instance are of a memo procedure, and these batches answer those behind so many first ones
pub record HasBatches (setting : Setting) (keeps : Bool) (l : Loop) (a : PlainActivation) (i : ℕ) (bs : List Batch) : Type 0 where
  pub of_memo : IsOfMemo setting (loop_at setting.codes a.procedure l) a.left
  pub batches : AreBatches setting keeps (loop_at setting.codes a.procedure l) a.slots a.left l.low i bs

-- a batch answers iterations from that number on, at least one and no more than so many
pub record IsBatchFrom (setting : Setting) (keeps : Bool) (j : PlainLoop) (slots : List Slot) (left : ℕ) (number : ℤ) (most : ℕ) (b : Batch) : Type 0 where
  pub members : List PlainRecord
  pub sum_is : IsSumFor keeps setting.kinds members b.sum.now
  pub count_is : length members ≡ b.count
  pub some : 0 < b.count
  pub few : b.count ≤ most
  pub answers : (low : ℤ) (i : ℕ) → number ≡ low +ℤ pos i → AreAnswers setting j slots left low i members

-- of these arguments that at a place is the loop's variable, which has a slot, and the others are numbers and other slots
pub record CountsAt (slots : List Slot) (variable : ℕ) (arguments : List Linked) (place : ℕ) : Type 0 where
  pub counts : counts variable place arguments ≡ true
  pub has_slot : variable < length slots

-- these numbers are the arguments of some iteration, for which nothing is read
pub record AreArguments (tables : Tables) (slots : List Slot) (variable : ℕ) (arguments : List Linked) (numbers : List ℤ) : Type 0 where
  pub of : ℤ
  pub values : values_at tables (slice_set slots variable (Has of)) arguments ≡ pure numbers

-- ---- what they leave

-- of a strand, whose topmost instance is their loop's
abbrev pub with_batches : ℕ → List Batch → PlainStrand → PlainStrand
with_batches d bs s = record s {
  layer = absorbed d (sums_of bs) s.layer;
  arguments = arguments_of_last s.arguments (sums_of bs);
  tally = answered_more (instances_in bs) s.tally;
}

-- a half of a loop that is halved again and that they answer leaves
abbrev pub halves_left : List Batch → PlainStrand → PlainStrand
halves_left bs s = record (with_batches (iteration_depth s.top) bs s) { top = halved_to s.top; phase = Leaving (pos 0) }

-- a half of which they answer the first half: the second one is next, which may be halved so many times
abbrev pub first_left : Loop → ℕ → Share → List Batch → PlainStrand → PlainStrand
first_left l k h bs s = record (with_batches (iteration_depth s.top) bs s) { top = waiting true None (Second l k (right_of h)) s.top; phase = Running }

-- a half that isn't halved again and that they answer leaves
abbrev pub last_left : Loop → Share → List Batch → PlainStrand → PlainStrand
last_left l h bs s = record (with_batches (iteration_depth s.top) bs s) { top = turned_to (instances_in bs) l h s.top; phase = Leaving (pos 0) }

-- the first of the iterations that are left one by one are answered
abbrev pub turns_left : Loop → Share → List Batch → PlainStrand → PlainStrand
turns_left l h bs s = record (with_batches (iteration_depth s.top) bs s) { top = turned_to (instances_in bs) l h s.top; phase = Running }
