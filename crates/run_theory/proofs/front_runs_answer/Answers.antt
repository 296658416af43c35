use Rattle.run_theory.proofs.Fronts.{front_rest}
use Rattle.run_theory.proofs.front_runs_answer.Goals as goal

pub returns : goal.returns
returns c = record { answer = front_rest }
