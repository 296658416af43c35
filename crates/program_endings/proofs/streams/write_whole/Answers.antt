use Rattle.std.proofs.Common.{◌∙◌, arith, length-drop, length-take}
use Rattle.program_endings.proofs.Written.{Appends-next}
use Rattle.program_endings.proofs.streams.write_whole.Goals as goal

pub loop-preserved : goal.loop-preserved
loop-preserved g c = record {
  within = let fits = simp (length-take, length-drop) at c.in_ok-at.ensures.bound in omega (arith, c.loop.invariant.within, fits);
  written = Appends-next _ _ _ _ _ _ c.loop.invariant.within c.loop.invariant.written c.in_ok-at.ensures.written;
  unmarked = c.in_ok-at.ensures.unmarked (λ e. cc) ∙ c.loop.invariant.unmarked;
}
