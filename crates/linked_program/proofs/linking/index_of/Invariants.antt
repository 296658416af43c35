use Rattle.std.proofs.Common.{◌≡◌, ◌+◌, ◌≤◌, map, drop, string_bytes}
use Rattle.meaning.specs.Tables.{index_of}
use Rattle.linked_program.proofs.linking.index_of.Given as goal

abbrev pub invariant-loop-other : goal.invariant-loop-other
invariant-loop-other l = record {
  same : index_of (map string_bytes l.names) l.name ≡ l.number + index_of (map string_bytes (drop l.other-index l.names)) l.name;
  few : l.number ≤ l.other-index;
}
