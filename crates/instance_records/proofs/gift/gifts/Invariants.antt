use Rattle.std.proofs.Common.{◌≡◌, ◌++◌, map}
use Rattle.std.specs.Vec.Iter.{into_iter_items}
use Rattle.instance_records.specs.Gifts.{given_by}
use Rattle.instance_records.proofs.gift.gifts.Given as goal

abbrev pub invariant-loop-value : goal.invariant-loop-value
invariant-loop-value l = record {
  can_next : (goal.iterator-loop-value).can_next l.value-iterator;
  is_finite : (goal.iterator-loop-value).is_finite l.value-iterator;
  moved : map given_by l.made.items ++ into_iter_items l.value-iterator ≡ l.fn.values.items;
}
