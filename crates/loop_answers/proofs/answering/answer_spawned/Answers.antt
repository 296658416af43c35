use Rattle.std.proofs.Common.{Ok}
use Rattle.activations.specs.Given.{lent}
use Rattle.loop_answers.proofs.Spawns.{spawn_over}
use Rattle.loop_answers.proofs.answering.answer_spawned.Goals as goal

pub returns-clause-ahead : goal.returns-clause-ahead
returns-clause-ahead g c =
    spawn_over (lent c.args.setting) {E = ⊥} (Ok c.in_ok-answer_spawned.field-0) c.args.machine.now c.answer_spawned.new.self c.requires.at_spawn c.in_ok-answer_spawned.ensures.answered c.in_ok-answer_spawned.ensures.same
