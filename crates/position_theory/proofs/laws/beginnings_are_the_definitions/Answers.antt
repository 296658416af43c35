use Rattle.position_theory.proofs.Moves.{first_is, stolen_is}
use Rattle.position_theory.proofs.laws.beginnings_are_the_definitions.Goals as goal

pub returns : goal.returns
returns c = record { first = first_is; stolen = stolen_is }
