use Rattle.trail_theory.proofs.Theorems.{faults_whole}
use Rattle.trail_theory.proofs.faults_with_elision.Goals as goal

pub returns : goal.returns
returns c = record { answer = faults_whole }
