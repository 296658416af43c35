use Rattle.trail_theory.proofs.MadeRecords.{made_is_sound}
use Rattle.trail_theory.proofs.made_record_is_sound.Goals as goal

pub returns : goal.returns
returns c = record { sound = made_is_sound }
