-- Iterations that a loop's instance has called, by its call and by the way that answers them.
use Rattle.std.proofs.Common.{◌≡◌, ℕ, zero, suc, refl}
use Rattle.positions.specs.declared.work.Loop.{Loop}
use Rattle.positions.specs.declared.work.Share.{Share}
use Rattle.positions.specs.declared.work.Work.TheVariants.{Turns}
use Rattle.positions.specs.Activations.{PlainActivation, at}
use Rattle.activations.specs.Turned.{turned_by}
use Rattle.answered_loops.specs.Answered.{turned_to}

pub turned_same : (n : ℕ) (l : Loop) (h : Share) (a : PlainActivation) → turned_by n l h (at (Turns l h) a) ≡ turned_to n l h a
turned_same zero l h a = refl
turned_same (suc n) l h a = refl
