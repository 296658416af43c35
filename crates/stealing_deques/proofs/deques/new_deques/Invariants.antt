use Rattle.std.proofs.Common.{◌≡◌, length}
use Rattle.stealing_deques.proofs.deques.new_deques.Given as goal

abbrev pub invariant-loop : goal.invariant-loop
invariant-loop g l = length l.deques.items ≡ l.counter
