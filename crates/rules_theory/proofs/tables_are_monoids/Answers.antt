use Rattle.rules_theory.proofs.Monoids.{has_monoids}
use Rattle.rules_theory.proofs.tables_are_monoids.Goals as goal

pub returns : goal.returns
returns c = record { monoids = has_monoids }
