use Rattle.trail_theory.proofs.Theorems.{continues}
use Rattle.trail_theory.proofs.continuation_is_right.Goals as goal

pub returns : goal.returns
returns c = record { right = continues }
