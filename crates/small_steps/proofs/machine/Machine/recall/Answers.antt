use Rattle.positions.specs.Advance.{answer_for}
use Rattle.activations.specs.Given.{lent}
use Rattle.small_steps.specs.Steps.{GivesNone}
use Rattle.small_steps.proofs.Memos.{answer_values, anew_on}
use Rattle.small_steps.proofs.machine.Machine.recall.Goals as goal

pub reuse-requires-clause-values : goal.reuse-requires-clause-values
reuse-requires-clause-values g c κs within =
    answer_values (lent c.args.setting) c.args.self.now c.in-Some.record.now c.args.setting.program.now.kinds c.requires.supplied.kinds_are c.requires.supplied.values c.in-Some.ensures.found

pub returns-in-None-clause-recalled : goal.returns-in-None-clause-recalled
returns-in-None-clause-recalled g c =
    anew_on (lent c.args.setting) (g.K.KitSource.lacks c.args.kits.now) (GivesNone g.K.KitSource.gives c.args.kits.now) c.args.self.now c.begin_anew.new.self (answer_for (lent c.args.setting) c.args.self.now) c.begin_anew.result
    c.in-None.ensures.found c.begin_anew.ensures.with_kit c.begin_anew.ensures.without_kit c.begin_anew.ensures.either
