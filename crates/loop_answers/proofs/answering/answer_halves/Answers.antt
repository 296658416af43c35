use Rattle.activations.specs.Given.{lent}
use Rattle.loop_answers.proofs.Levels.{ahead_join, refused_join}
use Rattle.loop_answers.proofs.answering.answer_halves.Goals as goal

pub returns-in-Ok-false-clause-ahead : goal.returns-in-Ok-false-clause-ahead
returns-in-Ok-false-clause-ahead g c =
    ahead_join (lent c.args.setting) c.args.machine.now c.loop.machine c.answer_next.new.machine c.loop.invariant.ahead c.in-Ok-false.ensures.ahead

pub returns-in-Err-clause-refused : goal.returns-in-Err-clause-refused
returns-in-Err-clause-refused g c =
    refused_join (lent c.args.setting) c.args.machine.now c.loop.machine c.answer_next.new.machine c.loop.invariant.ahead c.in-Err.ensures.refused

pub loop-preserved : goal.loop-preserved
loop-preserved g c = record {
  ahead = ahead_join (lent c.args.setting) c.args.machine.now c.loop.machine c.answer_next.new.machine c.loop.invariant.ahead c.in-Ok-true.ensures.ahead;
}
