use Rattle.trail_theory.proofs.NothingNeeded.{rerun_executes_none}
use Rattle.trail_theory.proofs.rerun_executes_nothing.Goals as goal

pub returns : goal.returns
returns c = record { none = λ program tables records ruled numbers sound. rerun_executes_none program tables records ruled numbers sound }
