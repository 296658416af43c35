use Rattle.std.proofs.Common.{rules}
use Rattle.stealing_deques.proofs.Shown.{pops}
use Rattle.stealing_deques.proofs.owner.OwnerEnd.pop.Goals as goal

pub pop_as-requires-clause-lifo : goal.pop_as-requires-clause-lifo
pop_as-requires-clause-lifo g c = λ _. pops _ _ _ c.self.invariant.1

pub returns-clause-popped : goal.returns-clause-popped
returns-clause-popped g c = (c.in_ok-entry.entry.number, search rules)
