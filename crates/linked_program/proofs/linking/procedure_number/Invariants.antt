use Rattle.std.proofs.Common.{◌≡◌, ◌+◌, ◌≤◌, map, drop}
use Rattle.meaning.specs.TreeView.{decl}
use Rattle.linked_program.specs.Procedures.{procedures}
use Rattle.linked_program.specs.Linked.{procedure_number}
use Rattle.linked_program.proofs.linking.procedure_number.Given as goal

abbrev pub invariant-loop-declaration : goal.invariant-loop-declaration
invariant-loop-declaration l = record {
  same : procedure_number (procedures (map decl l.declarations)) l.name ≡ l.number + procedure_number (procedures (map decl (drop l.declaration-index l.declarations))) l.name;
  few : l.number ≤ l.declaration-index;
}
