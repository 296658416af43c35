use Rattle.std.proofs.Common.{◌≡◌, ◌++◌, true}
use Rattle.std.specs.List.{flat_map}
use Rattle.std.specs.Vec.Iter.{into_iter_items}
use Rattle.meaning.specs.Every.{every}
use Rattle.instance_records.specs.Spans.{is_covered_by}
use Rattle.instance_records.specs.Full.{IsFull}
use Rattle.instance_records.specs.Readings.{all_of, shared_notes, is_covered_share}
use Rattle.instance_records.proofs.below.nodes.Given as goal

abbrev pub invariant-loop-part : goal.invariant-loop-part
invariant-loop-part l = record {
  can_next : (goal.iterator-loop-part).can_next l.part-iterator;
  is_finite : (goal.iterator-loop-part).is_finite l.part-iterator;
  moved : flat_map shared_notes l.nodes.items ++ all_of (into_iter_items l.part-iterator) ≡ all_of l.fn.parts.items;
  each : every is_covered_share l.nodes.items ≡ true;
  full : IsFull (all_of l.fn.parts.items) l.full;
  held : every (is_covered_by l.spans.items) (flat_map shared_notes l.nodes.items) ≡ true;
}
