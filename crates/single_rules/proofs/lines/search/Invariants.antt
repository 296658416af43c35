use Rattle.std.proofs.Common.{◌≡◌, drop}
use Rattle.linked_program.specs.Bodies.{line_of}
use Rattle.single_rules.proofs.lines.search.Given as goal

abbrev pub invariant-loop-other : goal.invariant-loop-other
invariant-loop-other l = line_of l.pairs l.number ≡ line_of (drop l.other-index l.pairs) l.number
