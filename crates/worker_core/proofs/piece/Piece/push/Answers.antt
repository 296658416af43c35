use Rattle.std.proofs.Common.{ℕ, sym, subst, true}
use Rattle.stepped_runs.specs.Pieces.{PlainPiece, pushed}
use Rattle.numbered_runs.specs.declared.refusal.Refusal.TheVariants.{NoMemory}
use Rattle.worker_core.specs.Moves.{RefusedAs}
use Rattle.worker_core.proofs.Pushes.{push_lacks}
use Rattle.worker_core.proofs.piece.Piece.push.Goals as goal

pub returns-then-is_err-clause-refused : goal.returns-then-is_err-clause-refused
returns-then-is_err-clause-refused g c =
    subst (λ (p : PlainPiece). (kits : ℕ) → RefusedAs true (pushed kits p) NoMemory) c.self.view_is
    (λ kits. push_lacks kits _ (sym c.in-AtSpawn.ensures.phase) (c.ready.ensures.parent (sym c.in-AtSpawn.ensures.phase)))
