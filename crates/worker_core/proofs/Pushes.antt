-- At a spawn a push is refused for want of memory alone.
use Rattle.std.proofs.Common.{◌≡◌, ℕ, ◌<◌, length, List, [], ◌∷◌, true, subst, sym, arith, refl}
use Rattle.positions.specs.Activations.{PlainActivation}
use Rattle.positions.specs.declared.phase.Phase.TheVariants.{AtSpawn}
use Rattle.stepped_runs.specs.Pieces.{PlainPiece, pushed, pushed_at, pushed_over}
use Rattle.numbered_runs.specs.declared.refusal.Refusal.TheVariants.{NoMemory}
use Rattle.worker_core.specs.Moves.{RefusedAs}

over_lacks : (kits : ℕ) (below : List PlainActivation) (p : PlainPiece) → 0 < length below → RefusedAs true (pushed_over below kits p) NoMemory
over_lacks kits [] p h = absurd (omega arith)
over_lacks kits (parent ∷ below) p h = refl

pub push_lacks : (kits : ℕ) (p : PlainPiece) → p.strand.phase ≡ AtSpawn → 0 < length p.strand.below → RefusedAs true (pushed kits p) NoMemory
push_lacks kits p e h = subst (λ ph. RefusedAs true (pushed_at ph kits p) NoMemory) (sym e) (over_lacks kits p.strand.below p h)
