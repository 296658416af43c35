use Rattle.std.proofs.Common.{◌≡◌, All}
use Rattle.test_kit.proofs.beginnings.kits.Given as goal

abbrev pub invariant-loop : goal.invariant-loop
invariant-loop l = All (λ k. k ≡ l.kinds) l.kits.items
