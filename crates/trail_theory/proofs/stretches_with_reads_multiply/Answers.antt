use Rattle.trail_theory.proofs.TypedWalks.{stretches_multiply_reading}
use Rattle.trail_theory.proofs.stretches_with_reads_multiply.Goals as goal

pub returns : goal.returns
returns c = record { multiply = stretches_multiply_reading }
