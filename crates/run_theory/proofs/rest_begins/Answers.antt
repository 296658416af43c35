use Rattle.run_theory.proofs.Rests.{begins}
use Rattle.run_theory.proofs.rest_begins.Goals as goal

pub returns : goal.returns
returns c = record { begins = begins }
