use Rattle.trail_theory.proofs.KeptRecords.{valid_answers}
use Rattle.trail_theory.proofs.valid_record_answers.Goals as goal

pub returns : goal.returns
returns c = record { answers = valid_answers }
