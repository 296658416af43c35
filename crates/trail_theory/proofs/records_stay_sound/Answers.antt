use Rattle.trail_theory.proofs.Contributions.{records_later}
use Rattle.trail_theory.proofs.records_stay_sound.Goals as goal

pub returns : goal.returns
returns c = record { sound = records_later }
