use Rattle.std.proofs.Common.{◌+◌, ◌*◌}
use Rattle.procedure_parser.proofs.declaration.+declaring.Given as goal

abbrev pub decreases-declarations : goal.decreases-declarations
decreases-declarations l = 2 * l.turns

abbrev pub decreases-with_reducer : goal.decreases-with_reducer
decreases-with_reducer l = 2 * l.turns + 1

abbrev pub decreases-with_procedure : goal.decreases-with_procedure
decreases-with_procedure l = 2 * l.turns + 1
