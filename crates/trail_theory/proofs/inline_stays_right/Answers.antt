use Rattle.trail_theory.proofs.Theorems.{inlines}
use Rattle.trail_theory.proofs.inline_stays_right.Goals as goal

pub returns : goal.returns
returns c = record { right = inlines }
