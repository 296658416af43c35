use Rattle.strand_tests.proofs.tests.deques.ends_have_numbers.Given as goal

abbrev pub ghosts-numbers : goal.ghosts-numbers
ghosts-numbers g a = record { deques = a.deques.items }
