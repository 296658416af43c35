use Rattle.trail_theory.proofs.TalliedTheorems.{closes_own_layer}
use Rattle.trail_theory.proofs.instances_close_their_own.Goals as goal

pub returns : goal.returns
returns c = record { own = closes_own_layer }
