use Rattle.rules_theory.proofs.Waits.{uses_no_waiting_name}
use Rattle.rules_theory.proofs.Reading.{main_reads_at_its_end}
use Rattle.rules_theory.proofs.Monoids.{has_monoids, checked_monoids}
use Rattle.rules_theory.proofs.checked_programs_keep_the_rules.Goals as goal

pub returns : goal.returns
returns c = record {
  kept = λ checked is. record { waiting = uses_no_waiting_name checked.tables checked.program is.clean; reads = main_reads_at_its_end checked.tables checked.program is.clean };
  monoids = λ checked is. has_monoids checked.tables checked.program is.clean;
  kinds = checked_monoids;
}
