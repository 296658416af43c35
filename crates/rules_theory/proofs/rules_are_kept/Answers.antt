use Rattle.rules_theory.proofs.Waits.{uses_no_waiting_name}
use Rattle.rules_theory.proofs.Reading.{main_reads_at_its_end}
use Rattle.rules_theory.proofs.rules_are_kept.Goals as goal

pub returns : goal.returns
returns c = record { kept = λ tables program clean. record { waiting = uses_no_waiting_name tables program clean; reads = main_reads_at_its_end tables program clean } }
