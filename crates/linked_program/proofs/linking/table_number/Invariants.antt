use Rattle.std.proofs.Common.{◌≡◌, ◌+◌, ◌≤◌, map, drop}
use Rattle.linked_program.specs.TableNames.{columned}
use Rattle.linked_program.specs.Linked.{table_number}
use Rattle.linked_program.proofs.linking.table_number.Given as goal

abbrev pub invariant-loop-table : goal.invariant-loop-table
invariant-loop-table l = record {
  same : table_number (map columned l.tables) l.name ≡ l.number + table_number (map columned (drop l.table-index l.tables)) l.name;
  few : l.number ≤ l.table-index;
}
