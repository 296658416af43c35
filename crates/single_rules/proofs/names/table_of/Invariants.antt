use Rattle.std.proofs.Common.{◌≡◌, map, drop}
use Rattle.linked_program.specs.TableNames.{columned, table_of}
use Rattle.single_rules.proofs.names.table_of.Given as goal

abbrev pub invariant-loop-table : goal.invariant-loop-table
invariant-loop-table l = table_of (map columned l.tables) l.name ≡ table_of (map columned (drop l.table-index l.tables)) l.name
