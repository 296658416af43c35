use Rattle.reuse_planner.proofs.Playing.{answer_elision}
use Rattle.reuse_planner.proofs.stepped.play_session.Goals as goal

pub returns-clause-elision : goal.returns-clause-elision
returns-clause-elision g c = answer_elision c.args.session.now c.obey_all.new.session c.args.commands.now c.obey_all.new.answers.items c.obey_all.ensures.done
