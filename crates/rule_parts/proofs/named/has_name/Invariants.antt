use Rattle.std.proofs.Common.{◌≡◌, map, drop, string_bytes}
use Rattle.linked_program.specs.TableNames.{has_name}
use Rattle.rule_parts.proofs.named.has_name.Given as goal

abbrev pub invariant-loop-other : goal.invariant-loop-other
invariant-loop-other l = has_name (map string_bytes l.names) l.name ≡ has_name (map string_bytes (drop l.other-index l.names)) l.name
