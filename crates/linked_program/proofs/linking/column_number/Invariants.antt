use Rattle.std.proofs.Common.{◌≡◌, map, drop}
use Rattle.linked_program.specs.TableNames.{columned}
use Rattle.linked_program.specs.Linked.{column_number}
use Rattle.linked_program.proofs.linking.column_number.Given as goal

abbrev pub invariant-loop-other : goal.invariant-loop-other
invariant-loop-other l = column_number (map columned l.tables) l.table l.column ≡ column_number (map columned (drop l.other-index l.tables)) l.table l.column
