use Rattle.trail_theory.proofs.TalliedTheorems.{entry_has_one}
use Rattle.trail_theory.proofs.entry_has_one_layer.Goals as goal

pub returns : goal.returns
returns c = record { one = entry_has_one }
