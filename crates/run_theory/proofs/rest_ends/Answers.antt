use Rattle.run_theory.proofs.Rests.{ends}
use Rattle.run_theory.proofs.rest_ends.Goals as goal

pub returns : goal.returns
returns c = record { ends = ends }
