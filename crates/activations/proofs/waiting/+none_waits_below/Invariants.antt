use Rattle.std.proofs.Common.{length}
use Rattle.activations.proofs.waiting.+none_waits_below.Given as goal

abbrev pub decreases-none_waits_below : goal.decreases-none_waits_below
decreases-none_waits_below l = length l.below.now
