use Rattle.trail_theory.proofs.ValidRecords.{valid_records_are_sound}
use Rattle.trail_theory.proofs.valid_records_are_sound.Goals as goal

pub returns : goal.returns
returns c = record { sound = λ program tables sight lookup calm h. valid_records_are_sound program tables sight calm lookup h }
