use Rattle.trail_theory.proofs.Joins.{steal_right}
use Rattle.trail_theory.proofs.stolen_is_right.Goals as goal

pub returns : goal.returns
returns c = record { right = steal_right }
