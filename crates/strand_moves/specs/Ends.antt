-- The end of a run.
use Rattle.std.specs.Prelude.{ℕ, ℤ, List, Option}
use Rattle.positions.specs.declared.phase.Phase.{Phase}
use Rattle.positions.specs.Activations.{PlainActivation}
use Rattle.positions.specs.Strands.{PlainStrand}
use Rattle.strand_parts.specs.Ends as parts

abbrev pub left_by : Phase → List PlainActivation → List ℕ → Option ℤ
left_by ph below path = parts.left_by ph below path

-- the value with which main has left, where it has
abbrev pub left_with : PlainStrand → Option ℤ
left_with s = left_by s.phase s.below s.path
