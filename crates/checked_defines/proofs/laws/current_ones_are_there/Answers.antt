use Rattle.checked_defines.proofs.Numbers.{current_are_there}
use Rattle.checked_defines.proofs.laws.current_ones_are_there.Goals as goal

pub returns : goal.returns
returns c = record { there = current_are_there }
