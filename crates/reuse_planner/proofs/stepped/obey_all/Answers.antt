use Rattle.std.proofs.Common.{rules, List, drop, ◌+◌, sym, subst}
use Rattle.reuse_planner.specs.declared.commands.Answer.{Answer}
use Rattle.reuse_planner.proofs.Playing.{DoesAll, does_more, does_end}
use Rattle.reuse_planner.proofs.stepped.obey_all.Goals as goal

pub loop-command-preserved : goal.loop-command-preserved
loop-command-preserved g c =
    let inv = c.loop-command.invariant in
    let i = c.loop-command.command-index in
    record {
      counted = search (rules, inv.counted);
      room = search (rules, inv.room);
      does = subst (λ (l : List Answer). DoesAll c.args.commands.now (drop (i + 1) c.args.commands.now) l c.args.session.now c.obey-answer.new.session) (sym c.push_reserved.ensures.items)
          (does_more c.args.commands.now i c.loop-command.answers.items c.args.session.now c.loop-command.session c.obey-answer.new.session c.command-item.result c.obey-answer.result
          c.loop-command-test.true c.command-item.is c.obey-answer.ensures.done inv.does);
    }

pub returns : goal.returns
returns g c = record {
  done = does_end c.args.commands.now c.loop-command.command-index c.loop-command.answers.items c.args.session.now c.loop-command.session c.loop-command-test.false c.loop-command.invariant.does;
}
