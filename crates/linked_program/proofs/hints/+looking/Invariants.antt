use Rattle.std.proofs.Common.{◌+◌, ◌*◌}
use Rattle.linked_program.proofs.hints.+looking.Given as goal

abbrev pub decreases-levels_of : goal.decreases-levels_of
decreases-levels_of l = l.left * 4 + 3

abbrev pub decreases-levels_in : goal.decreases-levels_in
decreases-levels_in l = l.left * 4 + 2

abbrev pub decreases-levels_at : goal.decreases-levels_at
decreases-levels_at l = l.left * 4 + 1

abbrev pub decreases-levels_called : goal.decreases-levels_called
decreases-levels_called l = l.left * 4
