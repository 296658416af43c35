use Rattle.strand_theory.proofs.Broken.{broken_from_scratch}
use Rattle.strand_theory.proofs.faults_are_the_elisions.Goals as goal

pub returns : goal.returns
returns c = record { faulted = broken_from_scratch }
