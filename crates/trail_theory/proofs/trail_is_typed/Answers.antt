use Rattle.trail_theory.proofs.TypedWalks.{trail_typed}
use Rattle.trail_theory.proofs.trail_is_typed.Goals as goal

pub returns : goal.returns
returns c = record { typed = λ program tables sight look numbers held seen. trail_typed program tables sight numbers held seen look }
