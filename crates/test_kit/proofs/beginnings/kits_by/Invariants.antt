use Rattle.std.proofs.Common.{◌≡◌, All}
use Rattle.test_kit.proofs.beginnings.kits_by.Given as goal

abbrev pub invariant-loop : goal.invariant-loop
invariant-loop g l = All (λ k. k ≡ l.fn.kinds) l.kits.items
