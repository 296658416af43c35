use Rattle.trail_theory.proofs.Ready.{steps_ready}
use Rattle.trail_theory.proofs.steps_are_ready.Goals as goal

pub returns : goal.returns
returns c = record { ready = steps_ready }
