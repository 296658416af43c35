use Rattle.trail_theory.proofs.Theorems.{ends_whole}
use Rattle.trail_theory.proofs.ends_with_elision.Goals as goal

pub returns : goal.returns
returns c = record { answer = ends_whole }
