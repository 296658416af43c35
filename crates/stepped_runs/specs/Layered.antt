-- How many layers a strand has that was laid down.
use Rattle.std.specs.Prelude.{◌≡◌, List, []}
use Rattle.meaning.specs.Strands.{State, Held, Ended, Stalled, Faulted, Finished}
use Rattle.positions.specs.Layers.{PlainLayer}
use Rattle.stepped_runs.specs.Pieces.{PlainPiece}

-- layers of instances around it may be open in a strand that is held, or has ended
abbrev pub HasOneLayerAs : State → List PlainLayer → Type 0
HasOneLayerAs (Held w) lower = Unit {0}
HasOneLayerAs Ended lower = Unit {0}
HasOneLayerAs Stalled lower = lower ≡ []
HasOneLayerAs Faulted lower = lower ≡ []
HasOneLayerAs Finished lower = lower ≡ []

-- one that has stalled, has a fault or has finished has one layer
abbrev pub HasOneLayer : PlainPiece → Type 0
HasOneLayer p = HasOneLayerAs p.state p.strand.lower
