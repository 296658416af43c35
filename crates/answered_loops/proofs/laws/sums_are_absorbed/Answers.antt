use Rattle.answered_loops.proofs.Sums.{absorbing_sum}
use Rattle.answered_loops.proofs.laws.sums_are_absorbed.Goals as goal

pub returns : goal.returns
returns c = record { absorbed = absorbing_sum }
