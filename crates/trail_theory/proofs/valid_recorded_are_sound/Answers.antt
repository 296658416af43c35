use Rattle.trail_theory.proofs.ValidRecords.{valid_recorded_are_sound}
use Rattle.trail_theory.proofs.valid_recorded_are_sound.Goals as goal

pub returns : goal.returns
returns c = record { sound = λ program tables sight lookup ruled h. valid_recorded_are_sound program tables sight ruled lookup h }
