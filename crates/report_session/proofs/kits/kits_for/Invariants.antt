use Rattle.std.proofs.Common.{◌≡◌, All, length}
use Rattle.report_session.proofs.kits.kits_for.Given as goal

abbrev pub invariant-loop : goal.invariant-loop
invariant-loop g l = All (λ kit. kit ≡ l.kinds) l.kits.items × (length l.kits.items ≡ l.counter)
