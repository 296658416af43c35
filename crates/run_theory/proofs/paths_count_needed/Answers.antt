use Rattle.run_theory.proofs.EndCounts.{counts_needed}
use Rattle.run_theory.proofs.paths_count_needed.Goals as goal

pub returns : goal.returns
returns c = record { counted = counts_needed }
