use Rattle.trail_theory.proofs.ReadPoints.{reads_see}
use Rattle.trail_theory.proofs.reads_see_the_end.Goals as goal

pub returns : goal.returns
returns c = record { sees = reads_see }
