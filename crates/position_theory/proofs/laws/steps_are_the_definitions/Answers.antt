use Rattle.position_theory.proofs.Kits.{kits_follow}
use Rattle.position_theory.proofs.Stepping.{small_step_is}
use Rattle.position_theory.proofs.Working.{working_is}
use Rattle.position_theory.proofs.Pauses.{pause_is, update_next_is}
use Rattle.position_theory.proofs.laws.steps_are_the_definitions.Goals as goal

pub returns : goal.returns
returns c = record { step = small_step_is; kits = kits_follow; pause = pause_is; working = working_is; update = update_next_is }
