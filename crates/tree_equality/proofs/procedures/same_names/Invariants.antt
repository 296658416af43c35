use Rattle.std.proofs.Common.{◌≡◌, map, drop, string_bytes}
use Rattle.meaning.specs.Edits.{same_names}
use Rattle.tree_equality.proofs.procedures.same_names.Given as goal

abbrev pub invariant-loop-i : goal.invariant-loop-i
invariant-loop-i l = same_names (map string_bytes l.left) (map string_bytes l.right) ≡ same_names (map string_bytes (drop l.i l.left)) (map string_bytes (drop l.i l.right))
