use Rattle.strand_tests.proofs.tests.thefts.+play.Given as goal

abbrev pub decreases-play : goal.decreases-play
decreases-play g l = l.thefts
