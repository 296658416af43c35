use Rattle.trail_theory.proofs.Theorems.{ends_reading}
use Rattle.trail_theory.proofs.ends_with_reads.Goals as goal

pub returns : goal.returns
returns c = record { answer = ends_reading }
