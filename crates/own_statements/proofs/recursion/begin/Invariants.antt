use Rattle.std.proofs.Common.{map, take}
use Rattle.linked_program.specs.CodeView.{expression}
use Rattle.own_statements.specs.Recursion.{IsBegun}
use Rattle.own_statements.proofs.recursion.begin.Given as goal

abbrev pub invariant-loop-place : goal.invariant-loop-place
invariant-loop-place l = record {
  begun : IsBegun l.slots (map expression (take l.place l.arguments)) l.fn.window l.window;
}
