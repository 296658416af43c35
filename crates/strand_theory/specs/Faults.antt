-- A strand with a fault: the trail from where it began has that fault first.
use Rattle.std.specs.Prelude.{◌≡◌, ◌∷◌, ◌++◌, None}
use Rattle.meaning.specs.Tree.{Tree}
use Rattle.meaning.specs.Tables.{Tables}
use Rattle.meaning.specs.Outcome.{Log, Accumulators, Fault, Faults}
use Rattle.meaning.specs.Trail.{trail_at}
use Rattle.meaning.specs.SmallStep.{Start, Lookup, look_of}
use Rattle.trail_theory.specs.ElisionBeside.{first_fault}
use Rattle.trail_theory.specs.Right.{StartsAfter}

module _ (program : Tree) (tables : Tables) (sight : Accumulators) (lookup : Lookup) where
  -- the trail from a strand's beginning has that fault first
  pub record BrokenAt (m : Start) (k : Fault) : Type 0 where
    pub before : Log
    pub done : Log
    pub beyond : Log
    pub is_trail : before ++ (done ++ Faults k ∷ beyond) ≡ trail_at program tables sight (look_of lookup)
    pub starts : StartsAfter m before
    pub quiet : first_fault done ≡ None
