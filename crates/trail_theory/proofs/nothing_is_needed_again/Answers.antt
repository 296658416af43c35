use Rattle.trail_theory.proofs.NothingNeeded.{nothing_needed}
use Rattle.trail_theory.proofs.nothing_is_needed_again.Goals as goal

pub returns : goal.returns
returns c = record { needed = λ program tables records ruled numbers sound. nothing_needed program tables records ruled numbers sound }
