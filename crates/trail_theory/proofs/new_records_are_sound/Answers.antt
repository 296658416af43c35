use Rattle.trail_theory.proofs.TalliedTheorems.{tallied_stay}
use Rattle.trail_theory.proofs.new_records_are_sound.Goals as goal

pub returns : goal.returns
returns c = record { tallied = tallied_stay }
