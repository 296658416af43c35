use Rattle.std.proofs.Common.{rules, ◌∙◌, sym, true≢false}
use Rattle.stealing_deques.proofs.Shown.{takes}
use Rattle.stealing_deques.proofs.thief.ThiefEnd.steal.Goals as goal

pub steal_as-requires-clause-takes : goal.steal_as-requires-clause-takes
steal_as-requires-clause-takes g c = takes _ _ _ c.self.invariant.3 (λ p. true≢false (sym p ∙ c.self.invariant.2))

pub returns-clause-stolen : goal.returns-clause-stolen
returns-clause-stolen g c = (c.in_ok-entry.entry.number, search rules, search rules)
