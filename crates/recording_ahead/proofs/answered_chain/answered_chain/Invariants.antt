use Rattle.std.proofs.Common.{◌≡◌, ◌≤◌, true, Some, length}
use Rattle.positions.specs.Layers.{blank}
use Rattle.record_theory.specs.Named.{HaveValues}
use Rattle.activations.specs.Given.{lent}
use Rattle.running_ahead.specs.Leaves.{AreRecorded, gathered_of, arguments_then}
use Rattle.recording_ahead.proofs.answered_chain.answered_chain.Given as goal

abbrev pub invariant-loop : goal.invariant-loop
invariant-loop g l = record {
  records : AreRecorded (lent l.setting) l.stretch.site l.fn.machine.top.procedure l.fn.machine.top.slots l.fn.machine.top.left l.stretch.share.first
      (gathered_of l.fn.machine l.fn.machine.arguments) l.done (gathered_of l.machine (arguments_then l.done l.stretch.site l.stretch.share l.fn.machine.arguments));
  few : l.done ≤ l.stretch.most;
  others : l.machine ≡ record l.fn.machine { layer = l.machine.layer; tally = l.machine.tally };
  opened : l.machine.tally.opened ≡ l.fn.machine.tally.opened;
  blank : l.own ≡ Some (blank true l.setting.program.now.kinds (length l.setting.program.now.codes));
  kinds : l.machine.layer.kinds ≡ l.fn.machine.layer.kinds;
  values : HaveValues l.setting.program.now.kinds l.fn.machine.tally.made → HaveValues l.setting.program.now.kinds l.machine.tally.made;
}
