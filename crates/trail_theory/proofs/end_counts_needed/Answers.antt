use Rattle.trail_theory.proofs.Counts.{end_counts}
use Rattle.trail_theory.proofs.end_counts_needed.Goals as goal

pub returns : goal.returns
returns c = record { counted = end_counts }
