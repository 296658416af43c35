use Rattle.trail_theory.proofs.CalmSteps.{calm_stays}
use Rattle.trail_theory.proofs.calm_stays.Goals as goal

pub returns : goal.returns
returns c = record { calm = calm_stays }
