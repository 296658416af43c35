use Rattle.trail_theory.proofs.MainElides.{ruled_of_none}
use Rattle.trail_theory.proofs.programs_without_reads_keep_the_rule.Goals as goal

pub returns : goal.returns
returns c = record { kept = ruled_of_none }
