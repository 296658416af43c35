use Rattle.trail_theory.proofs.Contributions.{commits_sound}
use Rattle.trail_theory.proofs.commits_stay_sound.Goals as goal

pub returns : goal.returns
returns c = record { sound = commits_sound }
