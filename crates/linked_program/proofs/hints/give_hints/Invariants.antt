use Rattle.std.proofs.Common.{◌≡◌, map}
use Rattle.linked_program.specs.Bare.{bare}
use Rattle.linked_program.proofs.hints.give_hints.Given as goal

abbrev pub invariant-loop-number : goal.invariant-loop-number
invariant-loop-number l = map bare l.codes.items ≡ map bare l.fn.codes.items
