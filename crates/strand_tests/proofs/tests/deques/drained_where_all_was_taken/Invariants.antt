use Rattle.std.proofs.Common.{[], ◌∷◌}
use Rattle.strand_tests.proofs.tests.deques.drained_where_all_was_taken.Given as goal

abbrev pub ghosts-drained_in_time : goal.ghosts-drained_in_time
ghosts-drained_in_time g a = record { deques = a.first ∷ a.second ∷ [] }
