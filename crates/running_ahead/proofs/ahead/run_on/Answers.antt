use Rattle.std.proofs.Common.{refl, ◌∙◌}
use Rattle.activations.specs.Given.{lent}
use Rattle.running_ahead.proofs.Paths.{ahead_here, ahead_join}
use Rattle.running_ahead.proofs.ahead.run_on.Goals as goal

pub go_ahead-requires-clause-kinds : goal.go_ahead-requires-clause-kinds
go_ahead-requires-clause-kinds g c κs within = c.loop.invariant.ahead.kinds ∙ c.requires.kinds

pub loop-init : goal.loop-init
loop-init g c = record { ahead = ahead_here (lent c.args.setting) c.args.machine.now; same = refl }

pub loop-preserved : goal.loop-preserved
loop-preserved g c = record {
  ahead = ahead_join (lent c.args.setting) c.args.machine.now c.loop.machine c.go_ahead.new.machine c.loop.invariant.ahead c.go_ahead.ensures.ahead;
  same = c.go_ahead.ensures.same ∙ c.loop.invariant.same;
}
