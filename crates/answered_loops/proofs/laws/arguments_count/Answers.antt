use Rattle.answered_loops.proofs.Arguments.{other_values}
use Rattle.answered_loops.proofs.laws.arguments_count.Goals as goal

pub returns : goal.returns
returns c = record { values = other_values }
