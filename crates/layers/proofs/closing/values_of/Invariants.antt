use Rattle.std.proofs.Common.{◌≡◌, map, take}
use Rattle.monoid_laws.specs.Kinds.{meaning}
use Rattle.layers.proofs.closing.values_of.Given as goal

abbrev pub invariant-loop-i : goal.invariant-loop-i
invariant-loop-i g l = map meaning l.values.items ≡ take l.i l.fn.hypermap.worths
