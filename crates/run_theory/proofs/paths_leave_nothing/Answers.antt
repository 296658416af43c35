use Rattle.run_theory.proofs.EndCounts.{leaves_nothing}
use Rattle.run_theory.proofs.paths_leave_nothing.Goals as goal

pub returns : goal.returns
returns c = record { none = leaves_nothing }
