use Rattle.std.proofs.Common.{ap, ◌∙◌}
use Rattle.stepped_runs.specs.Pieces.{PlainPiece}
use Rattle.worker_core.proofs.Working.{all_home}
use Rattle.worker_core.proofs.piece.Piece.end.Goals as goal

pub returns-then-is_last-clause-kinds : goal.returns-then-is_last-clause-kinds
returns-then-is_last-clause-kinds g c kinds fit all =
    all_home kinds c.self.inside.strand.layer.kinds c.args.pool.now.kits c.end-answer.new.kits.kits (ap (λ (p : PlainPiece). p.strand.layer.kinds) c.self.view_is ∙ fit) all c.end-answer.ensures.gives_known

pub returns-clause-kinds : goal.returns-clause-kinds
returns-clause-kinds g c kinds fit all =
    all_home kinds c.self.inside.strand.layer.kinds c.args.pool.now.kits c.end-answer.new.kits.kits (ap (λ (p : PlainPiece). p.strand.layer.kinds) c.self.view_is ∙ fit) all c.end-answer.ensures.gives_known
