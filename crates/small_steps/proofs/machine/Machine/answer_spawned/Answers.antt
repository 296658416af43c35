use Rattle.activations.specs.Given.{lent}
use Rattle.small_steps.proofs.Memos.{answer_values}
use Rattle.small_steps.proofs.machine.Machine.answer_spawned.Goals as goal

pub reuse-requires-clause-values : goal.reuse-requires-clause-values
reuse-requires-clause-values g c κs within =
    answer_values (lent c.args.setting) c.args.self.now c.in-Some.record.now c.args.setting.program.now.kinds c.requires.kinds c.requires.values c.in-Some.ensures.found
