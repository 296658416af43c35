use Rattle.evaluation.proofs.Readings.{value_reads, values_read, bounds_read, turn_reads}
use Rattle.evaluation.proofs.laws.evaluations_only_read.Goals as goal

pub returns : goal.returns
returns c = record { value = value_reads; values = values_read; bounds = bounds_read; turn = turn_reads }
