use Rattle.trail_theory.proofs.ReadPoints.{reads_at_root}
use Rattle.trail_theory.proofs.reads_stand_at_root.Goals as goal

pub returns : goal.returns
returns c = record { root = λ program tables sight lookup ruled. reads_at_root program tables sight lookup ruled }
