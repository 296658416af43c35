use Rattle.run_theory.proofs.FlagsTold.{runs_by_name, runs_by_length}
use Rattle.run_theory.proofs.runs_need_no_flags.Goals as goal

pub returns : goal.returns
returns c = record { by_name = runs_by_name; by_length = runs_by_length }
