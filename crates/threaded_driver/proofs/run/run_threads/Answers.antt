use Rattle.std.proofs.Common.{[]}
use Rattle.kept_session.specs.Sessions.{stock_of}
use Rattle.threaded_driver.proofs.Settling.{leaves_whatever_kits}
use Rattle.threaded_driver.proofs.run.run_threads.Goals as goal

pub returns-in-Ok-clause-recorded : goal.returns-in-Ok-clause-recorded
returns-in-Ok-clause-recorded g c =
    leaves_whatever_kits c.args.session.now c.run_taken-ran.new.session (stock_of []) c.give_back.result.0 c.give_back.new.session.records
    c.run_taken-ran.ensures.taken c.give_back.ensures.recorded
