use Rattle.trail_theory.proofs.TypedWalks.{stretches_multiply}
use Rattle.trail_theory.proofs.stretches_multiply.Goals as goal

pub returns : goal.returns
returns c = record { multiply = stretches_multiply }
