use Rattle.std.proofs.Common.{◌≡◌, ◌+◌, drop, map}
use Rattle.meaning.specs.Tables.{index_of}
use Rattle.table_parts.proofs.found.index_of.Given as goal

abbrev pub invariant-loop-place : goal.invariant-loop-place
invariant-loop-place g l = l.place + index_of (map g.N.AsStr.text (drop l.place l.named)) l.name ≡ index_of (map g.N.AsStr.text l.named) l.name
