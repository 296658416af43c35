use Rattle.std.proofs.Common.{rules}
use Rattle.stealing_deques.proofs.Shown.{forks}
use Rattle.stealing_deques.proofs.ends.ends_of.Goals as goal

pub another-pass-requires : goal.another-pass-requires
another-pass-requires g c = forks _ _ _ (search rules) (search rules)
