use Rattle.thread_tests.proofs.tests.floors.by_workers.Given as goal

abbrev pub ghosts-through : goal.ghosts-through
ghosts-through g a = record { deques = a.deques }
