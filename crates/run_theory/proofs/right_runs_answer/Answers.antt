use Rattle.run_theory.proofs.Paths.{runs_answer}
use Rattle.run_theory.proofs.right_runs_answer.Goals as goal

pub returns : goal.returns
returns c = record { answer = runs_answer }
