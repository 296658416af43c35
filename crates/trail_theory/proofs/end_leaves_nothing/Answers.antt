use Rattle.trail_theory.proofs.NothingNeeded.{end_leaves_none}
use Rattle.trail_theory.proofs.end_leaves_nothing.Goals as goal

pub returns : goal.returns
returns c = record { none = λ program tables records ruled numbers sound. end_leaves_none program tables records ruled numbers sound }
