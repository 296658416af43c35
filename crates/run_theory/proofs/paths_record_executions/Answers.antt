use Rattle.run_theory.proofs.EndCounts.{records_executed}
use Rattle.run_theory.proofs.paths_record_executions.Goals as goal

pub returns : goal.returns
returns c = record { recorded = records_executed }
