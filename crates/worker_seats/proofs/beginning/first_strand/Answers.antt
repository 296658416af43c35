use Rattle.worker_seats.proofs.Beginnings.{one_layer}
use Rattle.worker_seats.proofs.beginning.first_strand.Goals as goal

pub returns-in-Ok-clause-one_layer : goal.returns-in-Ok-clause-one_layer
returns-in-Ok-clause-one_layer g c = one_layer g.J.Run.setting c.in-Ok.strand.strand c.in-Ok.ensures.first
