use Rattle.run_theory.proofs.Progress.{laid_runs_go_on}
use Rattle.run_theory.proofs.laid_runs_go_on.Goals as goal

pub returns : goal.returns
returns c = record { goes = laid_runs_go_on }
