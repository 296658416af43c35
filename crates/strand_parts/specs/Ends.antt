-- What a strand ends with.
use Rattle.std.specs.Prelude.{ℕ, ℤ, List, [], Option, Some, None}
use Rattle.positions.specs.declared.phase.Phase.{Phase}
use Rattle.positions.specs.declared.phase.Phase.TheVariants.{Leaving}
use Rattle.positions.specs.Activations.{PlainActivation}

-- the value with which main has left
abbrev pub left_by : Phase → List PlainActivation → List ℕ → Option ℤ
left_by (Leaving v) [] [] = Some v
left_by _ _ _ = None
