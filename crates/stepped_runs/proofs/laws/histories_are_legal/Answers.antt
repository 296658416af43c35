use Rattle.stepped_runs.proofs.Ends.{keeps_history}
use Rattle.stepped_runs.proofs.laws.histories_are_legal.Goals as goal

pub returns : goal.returns
returns c = record { legal = keeps_history }
