use Rattle.trail_theory.proofs.NothingNeeded.{none_after_each}
use Rattle.trail_theory.proofs.new_records_suffice.Goals as goal

pub returns : goal.returns
returns c = record { suffice = λ program tables records ruled numbers sound. none_after_each program tables records ruled numbers sound }
