use Rattle.stepped_runs.proofs.Steps.{steps_agree, refusals_agree, first_agrees}
use Rattle.stepped_runs.proofs.laws.steps_are_the_definitions.Goals as goal

pub returns : goal.returns
returns c = record { step = steps_agree; refusal = refusals_agree; first = first_agrees }
