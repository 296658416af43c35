-- Iterations of a half that is called, recorded one after another, none of which stands on the strand.
use Rattle.std.specs.Prelude.{◌≡◌, ℕ, ◌+◌, Bool, List}
use Rattle.positions.specs.declared.work.Loop.{Loop}
use Rattle.positions.specs.declared.work.Share.{Share}
use Rattle.positions.specs.declared.work.Work.TheVariants.{Halves}
use Rattle.positions.specs.declared.phase.Phase.TheVariants.{Running}
use Rattle.positions.specs.Setting.{Setting}
use Rattle.positions.specs.Activations.{PlainActivation, at}
use Rattle.positions.specs.Strands.{PlainStrand}
use Rattle.running_ahead.specs.Chains.{IsClear, under, half_phase}
use Rattle.running_ahead.specs.Stepped.{IsStepped}
use Rattle.running_ahead.specs.Leaves.{Gathered, gathering, gathered, AreRecorded}

-- an instance of a loop that has such a half left
abbrev pub halves_gathered : Loop → ℕ → Share → PlainActivation → Gathered → PlainStrand → PlainStrand
halves_gathered l k h a x s = gathered Running (at (Halves l k h) a) x s

-- from an instance with a half left, whose first m iterations are recorded, to one with a part of it left, of which the first n are
pub record Arrives (setting : Setting) (l : Loop) (r : ℕ) (s : PlainStrand) (k : ℕ) (h : Share) (a : PlainActivation) (x y : Gathered)
    (path : List ℕ) (below : List PlainActivation) (m j : ℕ) (part : Share) (b : PlainActivation) (n : ℕ) : Type 0 where
  pub between : Gathered
  pub steps : IsStepped setting (halves_gathered l k h a x s) (halves_gathered l j part b between (under path below s))
  pub turns : AreRecorded setting l b.procedure b.slots b.left part.first between n y
  pub clear : IsClear (gathering between (under path below s))
  pub number : part.first + n ≡ h.first + m
  pub procedure : b.procedure ≡ a.procedure
  pub slots : b.slots ≡ a.slots
  pub left : b.left ≡ a.left

-- in whatever strand: it leaves, or one of its parts goes on
abbrev pub HalfRecords : Setting → Bool → PlainActivation → Gathered → List ℕ → List PlainActivation
    → PlainActivation → Gathered → List ℕ → List PlainActivation → Type 0
HalfRecords setting over a x path below b y new_path new_below = (s : PlainStrand) → IsClear (gathering x s) → s.path ≡ path → s.below ≡ below
    → IsStepped setting (gathered Running a x s) (gathered (half_phase over) b y (under new_path new_below s))
