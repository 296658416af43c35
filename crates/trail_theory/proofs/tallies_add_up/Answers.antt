use Rattle.trail_theory.proofs.AddingUp.{add_up}
use Rattle.trail_theory.proofs.tallies_add_up.Goals as goal

pub returns : goal.returns
returns c = record { sums = add_up }
