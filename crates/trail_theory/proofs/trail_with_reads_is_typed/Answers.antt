use Rattle.trail_theory.proofs.TypedWalks.{trail_typed_reading}
use Rattle.trail_theory.proofs.trail_with_reads_is_typed.Goals as goal

pub returns : goal.returns
returns c = record { typed = λ program tables sight look ruled numbers held. trail_typed_reading program tables sight ruled numbers held look }
