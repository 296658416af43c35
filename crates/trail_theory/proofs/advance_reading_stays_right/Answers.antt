use Rattle.trail_theory.proofs.ReadPoints.{advances_reading}
use Rattle.trail_theory.proofs.advance_reading_stays_right.Goals as goal

pub returns : goal.returns
returns c = record { right = advances_reading }
