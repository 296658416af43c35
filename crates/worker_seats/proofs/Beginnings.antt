-- The strand of a run's beginning.
use Rattle.std.proofs.Common.{◌≡◌, List, [], ◌∷◌, refl}
use Rattle.positions.specs.declared.start.Start.{Start}
use Rattle.positions.specs.Setting.{Setting}
use Rattle.positions.specs.Layers.{PlainLayer}
use Rattle.positions.specs.Stands.{AreNotes}
use Rattle.positions.specs.Simulation.{IsFirst}
use Rattle.positions.specs.Strands.{PlainStrand}

bare : (setting : Setting) (st : Start) (ls : List PlainLayer) → AreNotes setting st ls [] → ls ≡ []
bare setting st [] h = refl
bare setting st (l ∷ ls) h = absurd h

-- it has one layer
pub one_layer : (setting : Setting) (s : PlainStrand) → IsFirst setting s → s.lower ≡ []
one_layer setting s h = bare setting s.start s.lower h.layers.1
