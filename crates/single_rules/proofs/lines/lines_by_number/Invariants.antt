use Rattle.std.proofs.Common.{◌≡◌, drop}
use Rattle.single_rules.specs.Filled.{filled}
use Rattle.single_rules.proofs.lines.lines_by_number.Given as goal

abbrev pub invariant-loop-number : goal.invariant-loop-number
invariant-loop-number l = filled l.initial.lines.items l.pairs ≡ filled l.lines.items (drop l.number-index l.pairs)
