use Rattle.std.proofs.Common.{◌≡◌, map, drop, string_bytes}
use Rattle.linked_program.specs.Declarations.{repeats}
use Rattle.single_rules.proofs.heads.repeats.Given as goal

abbrev pub invariant-loop-i : goal.invariant-loop-i
invariant-loop-i l = repeats (map string_bytes l.names) ≡ repeats (map string_bytes (drop l.i l.names))
