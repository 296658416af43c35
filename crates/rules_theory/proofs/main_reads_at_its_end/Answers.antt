use Rattle.rules_theory.proofs.Reading.{main_reads_at_its_end}
use Rattle.rules_theory.proofs.main_reads_at_its_end.Goals as goal

pub returns : goal.returns
returns c = record { reads = main_reads_at_its_end }
