use Rattle.trail_theory.proofs.MainElides.{main_from_scratch}
use Rattle.trail_theory.proofs.main_is_trail.Goals as goal

pub returns : goal.returns
returns c = record { same = main_from_scratch }
