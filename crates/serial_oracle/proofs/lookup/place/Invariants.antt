use Rattle.std.proofs.Common.{◌≡◌, map}
use Rattle.std.specs.Prelude.{string_bytes}
use Rattle.meaning.specs.Tables.{index_of}
use Rattle.serial_oracle.proofs.Searching.{place_from}
use Rattle.serial_oracle.proofs.lookup.place.Given as goal

abbrev pub invariant-loop-i : goal.invariant-loop-i
invariant-loop-i l = index_of (map string_bytes l.columns) l.wanted ≡ place_from l.columns l.wanted l.i
