use Rattle.stepped_runs.proofs.Progress.{never_stuck}
use Rattle.stepped_runs.proofs.laws.some_step_is_there.Goals as goal

pub returns : goal.returns
returns c = record { there = never_stuck }
