use Rattle.right_strands.proofs.Points.{has_fault}
use Rattle.right_strands.proofs.laid.Piece.faulted.Goals as goal

pub close_upper-requires-clause-faulted : goal.close_upper-requires-clause-faulted
close_upper-requires-clause-faulted g c κs within = has_fault g.J.Run.setting.codes c.args.strand.strand c.requires.faulted
