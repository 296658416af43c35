use Rattle.evaluation.proofs.Meant.{value_is, values_are, bounds_are}
use Rattle.evaluation.proofs.laws.values_are_the_definitions.Goals as goal

pub returns : goal.returns
returns c = record { value = value_is; values = values_are; bounds = bounds_are }
