use Rattle.std.proofs.Common.{◌≡◌, drop}
use Rattle.source_tree.specs.Packing.{packed_behind}
use Rattle.source_tree.proofs.places.packed.Given as goal

abbrev pub invariant-loop-byte : goal.invariant-loop-byte
invariant-loop-byte l = packed_behind l.number (drop l.byte-index l.fn.name) ≡ packed_behind 1 l.fn.name
