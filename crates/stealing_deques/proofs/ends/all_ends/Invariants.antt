use Rattle.std.proofs.Common.{◌≡◌, ◌+◌, length, drop}
use Rattle.std.specs.Vec.Iter.{into_iter_items}
use Rattle.stealing_deques.specs.Steps.{AreNumbered, unused_owner, unused_thief}
use Rattle.stealing_deques.proofs.ends.all_ends.Given as goal

abbrev pub invariant-loop-deque : goal.invariant-loop-deque
invariant-loop-deque g l =
    (goal.iterator-loop-deque g).can_next l.deque-iterator
    × (goal.iterator-loop-deque g).is_finite l.deque-iterator
    × (drop (length l.owners.items) g.D.Deques.deques ≡ into_iter_items l.deque-iterator)
    × (length l.owners.items + length (into_iter_items l.deque-iterator) ≡ length l.fn.deques.items)
    × (length l.thieves.items ≡ length l.owners.items)
    × AreNumbered unused_owner l.owners.items
    × AreNumbered unused_thief l.thieves.items
