use Rattle.std.proofs.Common.{◌≡◌, drop}
use Rattle.input_tables.specs.Names.{are_name_bytes}
use Rattle.input_tables.proofs.names.are_name_bytes.Given as goal

abbrev pub invariant-loop-byte : goal.invariant-loop-byte
invariant-loop-byte l = are_name_bytes (drop l.byte-index l.bytes) ≡ are_name_bytes l.bytes
