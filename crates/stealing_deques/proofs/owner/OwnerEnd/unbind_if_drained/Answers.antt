use Rattle.std.proofs.Common.{◌≡◌, rules, ap, ◌∙◌, true, arith, length, List}
use Rattle.crossbeam_deque.specs.Handles.{view, worker_view}
use Rattle.stealing_deques.specs.declared.entry.Knowledge.{Knowledge}
use Rattle.stealing_deques.specs.declared.entry.PlainEntry.{PlainEntry}
use Rattle.stealing_deques.specs.Order.{knowing}
use Rattle.stealing_deques.proofs.Shown.{admits, merges, forks_anew}
use Rattle.stealing_deques.proofs.owner.OwnerEnd.unbind_if_drained.Goals as goal

pub pass-guest-requires : goal.pass-guest-requires
pass-guest-requires g c = admits _

pub absorb-requires-clause-rule : goal.absorb-requires-clause-rule
absorb-requires-clause-rule g c = merges _ _ _ _ _ c.self.invariant.1 (search rules)

pub another-requires : goal.another-requires
another-requires g c =
    let v = worker_view c.len_as.new.self in
    let is : v ≡ knowing true true (worker_view c.self.inside.worker).pushed (worker_view c.self.inside.worker).here (worker_view c.self.inside.worker).popped (view c.replace-pass.result).stolen = c.len_as.ensures.same.2 ∙ c.absorb.ensures.rule in
    let same : (view c.replace-pass.result).stolen ≡ (view c.thief.inside.pass).stolen = search rules in
    let pushed : v.pushed ≡ (worker_view c.self.inside.worker).pushed = ap (λ (x : Knowledge). x.pushed) is in
    let popped : length v.popped ≡ length (worker_view c.self.inside.worker).popped = ap (λ (x : Knowledge). length x.popped) is in
    let stolen : length v.stolen ≡ length (view c.thief.inside.pass).stolen = ap (λ (x : Knowledge). length x.stolen) is ∙ ap (λ (l : List PlainEntry). length l) same in
    forks_anew _ _ _ (ap (λ (x : Knowledge). x.owns) is) (ap (λ (x : Knowledge). x.steals) is) (omega (arith, pushed, popped, stolen, c.self.invariant, c.thief.invariant))
