use Rattle.trail_theory.proofs.Records.{sound_of}
use Rattle.trail_theory.proofs.records_are_sound.Goals as goal

pub returns : goal.returns
returns c = record { sound = sound_of }
