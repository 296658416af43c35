use Rattle.trail_theory.proofs.Theorems.{faults_reading}
use Rattle.trail_theory.proofs.faults_with_reads.Goals as goal

pub returns : goal.returns
returns c = record { answer = faults_reading }
