use Rattle.position_theory.proofs.Layered.{layers_kept}
use Rattle.position_theory.proofs.Nested.{nests_kept}
use Rattle.position_theory.proofs.laws.steps_keep_layers.Goals as goal

pub returns : goal.returns
returns c = record { layers = layers_kept; nesting = nests_kept }
