use Rattle.stealing_deques.proofs.Shown.{learns}
use Rattle.stealing_deques.proofs.owner.OwnerEnd.held_count.Goals as goal

pub len_as-requires : goal.len_as-requires
len_as-requires g c = learns _ _ _ c.self.invariant.1
