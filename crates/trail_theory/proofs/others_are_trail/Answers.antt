use Rattle.trail_theory.proofs.MainElides.{other_fits}
use Rattle.trail_theory.proofs.others_are_trail.Goals as goal

pub returns : goal.returns
returns c = record { same = λ program tables sight ruled. other_fits program tables sight ruled }
