use Rattle.std.proofs.Common.{◌≡◌, slice_get, map, drop}
use Rattle.meaning.specs.TreeView.{decl}
use Rattle.linked_program.specs.Procedures.{procedures}
use Rattle.trace_report.proofs.answers.procedure_name.Given as goal

-- the procedure of that number is the one of the number that is left, of the declarations that are left
abbrev pub invariant-loop-declaration : goal.invariant-loop-declaration
invariant-loop-declaration l = slice_get (procedures (map decl l.declarations)) l.number ≡ slice_get (procedures (map decl (drop l.declaration-index l.declarations))) l.left
