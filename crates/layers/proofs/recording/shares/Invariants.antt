use Rattle.std.proofs.Common.{◌≡◌, ◌++◌, drop}
use Rattle.layers.proofs.recording.shares.Given as goal

abbrev pub invariant-loop-part : goal.invariant-loop-part
invariant-loop-part l = l.parts.items ++ drop l.part-index l.shared ≡ l.shared
