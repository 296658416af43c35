use Rattle.run_theory.proofs.Paths.{paths_answer}
use Rattle.run_theory.proofs.paths_answer.Goals as goal

pub returns : goal.returns
returns c = record { answer = paths_answer }
