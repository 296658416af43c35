use Rattle.run_theory.proofs.FlagsTold.{reads_by_one}
use Rattle.run_theory.proofs.paths_read_by_one_layer.Goals as goal

pub returns : goal.returns
returns c = record { one = reads_by_one }
