use Rattle.std.proofs.Common.{◌≡◌, ◌≤◌, map, IfSome}
use Rattle.linked_program.specs.CodeView.{expression as plain}
use Rattle.activations.specs.Given.{lent, loop_of}
use Rattle.loop_answers.specs.Batches.{instances_in, AreBatches, AreArguments}
use Rattle.loop_answers.proofs.finding.answers_by.Given as goal

abbrev pub invariant-loop : goal.invariant-loop
invariant-loop g l = record {
  same : l.machine ≡ l.fn.machine;
  known : IfSome l.counted (λ place. AreArguments l.setting.tables.now.tables l.fn.machine.top.slots l.code.variable (map plain l.code.arguments.now) l.numbers.items);
  count : l.count ≡ instances_in l.batches.items;
  few : l.count ≤ l.most;
  most : l.most ≤ l.search.wanted.most;
  batches : AreBatches (lent l.setting) l.fn.machine.layer.keeps (loop_of l.code) l.fn.machine.top.slots l.fn.machine.top.left l.turns.site.low l.turns.share.first l.batches.items;
}
