use Rattle.std.proofs.Common.{◌+◌, ◌*◌}
use Rattle.procedure_parser.proofs.define.+defining.Given as goal

abbrev pub decreases-procedures : goal.decreases-procedures
decreases-procedures l = 3 * l.turns

abbrev pub decreases-named : goal.decreases-named
decreases-named l = 3 * l.turns + 1

abbrev pub decreases-one : goal.decreases-one
decreases-one l = 3 * l.turns + 2
