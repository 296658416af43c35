use Rattle.trail_theory.proofs.TalliedTheorems.{read_has_one}
use Rattle.trail_theory.proofs.read_has_one_layer.Goals as goal

pub returns : goal.returns
returns c = record { one = read_has_one }
