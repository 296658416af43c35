use Rattle.std.proofs.Common.{[], ◌∷◌}
use Rattle.strand_tests.proofs.tests.deques.each_is_taken_once.Given as goal

abbrev pub ghosts-three_rounds : goal.ghosts-three_rounds
ghosts-three_rounds g a = record { deques = a.deque ∷ [] }
