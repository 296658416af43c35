use Rattle.std.proofs.Common.{◌≡◌, All, length}
use Rattle.cli.proofs.sorts.kits_of.Given as goal

abbrev pub invariant-loop-before : goal.invariant-loop-before
invariant-loop-before g l = All (λ kit. kit ≡ l.kinds) l.kits.items × (length l.kits.items ≡ l.before)
