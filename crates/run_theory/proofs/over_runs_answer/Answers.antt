use Rattle.run_theory.proofs.Overs.{over_rest}
use Rattle.run_theory.proofs.over_runs_answer.Goals as goal

pub returns : goal.returns
returns c = record { answer = over_rest }
