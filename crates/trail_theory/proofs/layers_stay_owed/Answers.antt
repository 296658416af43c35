use Rattle.trail_theory.proofs.TalliedTheorems.{layers_stay}
use Rattle.trail_theory.proofs.layers_stay_owed.Goals as goal

pub returns : goal.returns
returns c = record { owed = layers_stay }
