use Rattle.std.proofs.Common.{rules, length-append}
use Rattle.std.specs.Vec.Iter.{into_iter_items}
use Rattle.stealing_deques.specs.Steps.{unused_owner, unused_thief}
use Rattle.stealing_deques.proofs.Lists.{front_at, numbered_snoc, rest_behind}
use Rattle.stealing_deques.proofs.ends.all_ends.Goals as goal

pub ends_of-requires-clause-named : goal.ends_of-requires-clause-named
ends_of-requires-clause-named g c κs within =
    (front_at _ c.len.result c.in-Some.deque (into_iter_items c.next.new.self) (search rules)).0

pub loop-deque-preserved : goal.loop-deque-preserved
loop-deque-preserved g c = (
  tt,
  tt,
  rest_behind _ c.in-Some.deque (into_iter_items c.next.new.self) c.loop-deque.owners.items _ c.in_ok-owner.owner c.in_ok-push.ensures.items (search rules),
  search (rules, length-append),
  search (rules, length-append),
  numbered_snoc unused_owner c.loop-deque.owners.items _ c.in_ok-owner.owner c.in_ok-push.ensures.items c.loop-deque.invariant.5 (search rules),
  numbered_snoc unused_thief c.loop-deque.thieves.items _ c.in_ok-owner.thief c.in_ok-push-2.ensures.items c.loop-deque.invariant.6 (search rules),
)
