use Rattle.std.proofs.Common.{◌≡◌, map, take}
use Rattle.linked_program.specs.TableNames.{columned, columned_of}
use Rattle.spawn_checker.proofs.table_names.table_names.Given as goal

abbrev pub invariant-loop-number : goal.invariant-loop-number
invariant-loop-number l = map columned l.made.items ≡ columned_of (take l.number l.tables.tables)
