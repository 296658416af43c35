use Rattle.trail_theory.proofs.Records.{recorded_sound}
use Rattle.trail_theory.proofs.recorded_records_are_sound.Goals as goal

pub returns : goal.returns
returns c = record { sound = recorded_sound }
