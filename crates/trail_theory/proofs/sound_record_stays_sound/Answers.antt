use Rattle.trail_theory.proofs.MadeRecords.{sound_stays}
use Rattle.trail_theory.proofs.sound_record_stays_sound.Goals as goal

pub returns : goal.returns
returns c = record { sound = sound_stays }
