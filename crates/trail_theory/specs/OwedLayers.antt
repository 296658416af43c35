-- Which strand has the layer of which instance. A layer stays with the strand that opened it, also where a thief takes its
-- instance: so a strand and its continuations have the instances that it opened and those of strands to the left of it, but for
-- those that strands to the right have.
use Rattle.std.specs.Prelude.{◌≡◌, List, [], ◌∷◌, ◌++◌, map}
use Rattle.meaning.specs.Outcome.{Place}
use Rattle.meaning.specs.SmallStep.{Start, root, behind, Phase, entering, running, spawning, returning, leaving, broken, Parent, Continuation}
use Rattle.meaning.specs.LayeredStrand.{LayeredStrand}
use Rattle.meaning.specs.Tallies.{Opened, Tally}
use Rattle.trail_theory.specs.Order.{Every}
use Rattle.trail_theory.specs.OpenLayers.{recorded_in}

-- the instances of a deque, the newest continuation's first
abbrev pub parents_behind : List Continuation → List Parent
parents_behind [] = []
parents_behind (k ∷ ks) = k.parent ∷ (k.under ++ parents_behind ks)

-- those that have a layer, of a strand and of its deque
abbrev pub recorded_of : LayeredStrand → List Continuation → List Place
recorded_of s ks = recorded_in s.frame s.phase (s.under ++ parents_behind ks)

abbrev pub opened_names : List Opened → List Place
opened_names os = map (λ o. o.instance) os

-- nothing is claimed of a strand that has a fault
abbrev pub Unbroken : Phase → Type 0 → Type 0
Unbroken (broken k) A = Unit {0}
Unbroken (entering child) A = A
Unbroken (running todo) A = A
Unbroken (spawning d x child todo) A = A
Unbroken (returning v) A = A
Unbroken (leaving v) A = A

-- n is m, or one of the instances on the way from main to m
pub record IsOver (m n : Place) : Type 0 where
  pub path : Place
  pub is : m ≡ n ++ path

-- the instances that the strands to the left have layers of: they were entered before the strand begins, and have not left
abbrev pub Precede : Start → List Place → Type 0
Precede root names = names ≡ []
Precede (behind m k) names = Every (IsOver m) names

-- with the layers of `left` owed by the strands to the left, it leaves those of `right` owed to the strands to the right
pub record OwesLayers (s : LayeredStrand) (ks : List Continuation) (t : Tally) (left right : List Place) : Type 0 where
  pub balance : Unbroken s.phase (recorded_of s ks ++ right ≡ opened_names t.opened ++ left)
  pub precede : Precede s.start left
