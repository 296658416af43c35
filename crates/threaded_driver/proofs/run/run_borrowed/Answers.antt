use Rattle.threaded_driver.proofs.run.run_borrowed.Goals as goal

pub returns-in-Err-clause-end : goal.returns-in-Err-clause-end
returns-in-Err-clause-end g c = c.without_memory.ensures.end g.J.Run.setting
