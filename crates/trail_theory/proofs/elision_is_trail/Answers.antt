use Rattle.trail_theory.proofs.Elides.{run_fits}
use Rattle.trail_theory.proofs.elision_is_trail.Goals as goal

pub returns : goal.returns
returns c = record { same = λ program tables sight h. run_fits program tables sight h }
