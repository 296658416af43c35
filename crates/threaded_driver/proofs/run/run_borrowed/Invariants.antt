use Rattle.threaded_driver.proofs.run.run_borrowed.Given as goal

abbrev pub ghosts-run_through : goal.ghosts-run_through
ghosts-run_through g a = record { deques = a.deques }
