-- The answer of a strand that is over.
use Rattle.std.specs.Prelude.{◌≡◌, ℕ, ℤ, List, [], map}
use Rattle.monoid_laws.specs.Worth.{Worth}
use Rattle.monoid_laws.specs.Kinds.{meaning}
use Rattle.meaning.specs.Outcome.{Fault as NamedFault}
use Rattle.meaning.specs.SmallStep.{leaving, broken}
use Rattle.meaning.specs.Layers.{bottom}
use Rattle.meaning.specs.Tallies.{Tally}
use Rattle.meaning.specs.LayeredStrand.{LayeredStrand}
use Rattle.positions.specs.declared.phase.Fault.{Fault}
use Rattle.positions.specs.declared.phase.Phase.{Phase}
use Rattle.positions.specs.declared.phase.Phase.TheVariants.{Leaving, Broken}
use Rattle.positions.specs.Setting.{Setting}
use Rattle.positions.specs.Activations.{PlainActivation}
use Rattle.positions.specs.Tallies.{PlainTally}
use Rattle.positions.specs.Strands.{PlainStrand}
use Rattle.positions.specs.Stands.{StandsFor, named_fault}
use Rattle.positions.specs.declared.answer.RunAnswer.{RunAnswer}
use Rattle.positions.specs.declared.answer.RunAnswer.TheVariants as answer

-- how a run ends: with a result, by a fault, or not yet
pub data Ending : Type 0 where
  over : ℤ → Ending
  stopped : Fault → Ending
  underway : Ending

abbrev pub ending_at : Phase → List PlainActivation → List ℕ → Ending
ending_at (Leaving v) [] [] = over v
ending_at (Broken f) below path = stopped f
ending_at _ _ _ = underway

-- how a strand ends the run: main leaves, or there was a fault
abbrev pub ending_of : PlainStrand → Ending
ending_of s = ending_at s.phase s.below s.path

-- so many memo instances were executed, answered by a record, and executed without a record of their own
pub record AreCounts (tally : PlainTally) (executed reused unrecorded : ℕ) : Type 0 where
  pub executed_is : executed ≡ tally.executed
  pub reused_is : reused ≡ tally.reused
  pub unrecorded_is : unrecorded ≡ tally.unrecorded

-- the answer of a run that ends so, with those values of the reducers and that tally
abbrev pub IsAnswer : Ending → List Worth → PlainTally → RunAnswer → Type 0
IsAnswer (over v) worths tally (answer.Finished w values n m k) = (w ≡ v) × (map meaning values.items ≡ worths) × AreCounts tally n m k
IsAnswer (over v) worths tally answer.NoMemory = Unit {0}
IsAnswer (stopped f) worths tally (answer.Fault g) = g ≡ f
IsAnswer underway worths tally answer.Unfinished = Unit {0}
IsAnswer _ _ _ _ = ⊥

module _ (setting : Setting) where
  -- main has left with that value, and nothing waits under it
  abbrev pub HasLeft : LayeredStrand → ℤ → Type 0
  HasLeft x v = (x.phase ≡ leaving v) × (x.frame.instance ≡ []) × (x.under ≡ [])

  -- the answer of a strand of the definitions with that tally: main has left, or there was a fault, or neither
  abbrev pub Answers : RunAnswer → LayeredStrand → Tally → Type 0
  Answers (answer.Finished v values n m k) x t = HasLeft x v × (map meaning values.items ≡ bottom x.layers) × (n ≡ t.executed)
      × (m ≡ t.reused) × (k ≡ t.unrecorded)
  Answers (answer.Fault f) x t = x.phase ≡ broken (named_fault setting f)
  Answers answer.Unfinished x t = ((k : NamedFault) → x.phase ≡ broken k → ⊥) × ((v : ℤ) → HasLeft x v → ⊥)
  Answers answer.NoMemory x t = Unit {0}
  Answers answer.NoKit x t = ⊥

  -- it is the answer of what the strand stands for, want of memory aside
  abbrev pub IsAnswerOf : PlainStrand → RunAnswer → Type 0
  IsAnswerOf s a = (x : LayeredStrand) (t : Tally) → StandsFor setting s x t → Answers a x t
