use Rattle.trail_theory.proofs.Counts.{needed_marks}
use Rattle.trail_theory.proofs.marks_are_needed.Goals as goal

pub returns : goal.returns
returns c = record { needed = λ program tables sight records ruled sound. needed_marks program tables records ruled sound sight }
