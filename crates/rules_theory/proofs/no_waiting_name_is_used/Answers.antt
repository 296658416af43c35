use Rattle.rules_theory.proofs.Waits.{uses_no_waiting_name}
use Rattle.rules_theory.proofs.no_waiting_name_is_used.Goals as goal

pub returns : goal.returns
returns c = record { free = uses_no_waiting_name }
