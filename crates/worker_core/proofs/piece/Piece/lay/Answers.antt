use Rattle.std.proofs.Common.{ap, ◌∙◌}
use Rattle.stepped_runs.specs.Pieces.{PlainPiece}
use Rattle.worker_core.proofs.Working.{all_home}
use Rattle.worker_core.proofs.piece.Piece.lay.Goals as goal

pub returns-in-Faulted-clause-free : goal.returns-in-Faulted-clause-free
returns-in-Faulted-clause-free g c kinds fit all =
    all_home kinds c.self.inside.strand.layer.kinds c.args.pool.now.kits c.close_upper.new.kits.kits (ap (λ (p : PlainPiece). p.strand.layer.kinds) c.self.view_is ∙ fit) all c.close_upper.ensures.gives_known
