use Rattle.position_theory.proofs.Joins.{joined_is}
use Rattle.position_theory.proofs.Moves.{inlined_is, detached_is, attached_is, resumed_is, alone_is}
use Rattle.position_theory.proofs.laws.moves_are_the_definitions.Goals as goal

pub returns : goal.returns
returns c = record { inlined = inlined_is; detached = detached_is; attached = attached_is; resumed = resumed_is; joined = joined_is; alone = alone_is }
