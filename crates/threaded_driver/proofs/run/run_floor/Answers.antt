use Rattle.threaded_driver.proofs.run.run_floor.Goals as goal

pub returns-then-is_err-clause-end : goal.returns-then-is_err-clause-end
returns-then-is_err-clause-end g c = c.without_memory.ensures.end g.J.Run.setting
