use Rattle.stealing_deques.proofs.Keeps.{begins}
use Rattle.stealing_deques.proofs.deques.NewDeque.new.Goals as goal

pub lifo_as-requires : goal.lifo_as-requires
lifo_as-requires g c = begins
