use Rattle.trail_theory.proofs.Contributions.{acts_by_contribution}
use Rattle.trail_theory.proofs.instances_act_by_contribution.Goals as goal

pub returns : goal.returns
returns c = record { acts = acts_by_contribution }
