use Rattle.std.proofs.Common.{◌≡◌, ◌≤◌, ◌+◌, length, map, vec_capacity}
use Rattle.std.specs.Vec.Iter.{into_iter_items}
use Rattle.record_theory.specs.Record.{as_made, instance_number}
use Rattle.record_theory.specs.Commits.{put_records}
use Rattle.record_theory.specs.Numbers.{with_numbers, HaveNumbers}
use Rattle.meaning.specs.Tables.{Tables}
use Rattle.record_theory.specs.InStep.{IsInStep, ReadNow}
use Rattle.rerun_records.specs.Blocks.{BlocksFit}
use Rattle.rerun_records.specs.Covers.{AreKept}
use Rattle.rerun_records.proofs.listing.put_all.Given as goal

abbrev pub invariant-loop-record : goal.invariant-loop-record
invariant-loop-record l = record {
  can_next : (goal.iterator-loop-record).can_next l.record-iterator;
  is_finite : (goal.iterator-loop-record).is_finite l.record-iterator;
  room : length l.list.items + length (into_iter_items l.record-iterator) ≤ vec_capacity l.list;
  room_below : length l.list.items + length (into_iter_items l.record-iterator) ≤ l.places.room;
  places : length l.numbers.items + length (into_iter_items l.record-iterator) ≤ vec_capacity l.numbers;
  numbered : l.places.numbers ≡ map instance_number l.list.items;
  have_numbers : HaveNumbers l.numbers.items l.list.items;
  fit : BlocksFit (with_numbers l.numbers.items l.list.items) l.blocks;
  covered : AreKept l.list.items l.covers;
  put : put_records (with_numbers l.numbers.items l.list.items) (into_iter_items l.record-iterator)
      ≡ put_records (with_numbers l.fn.numbers.items l.fn.list.items) l.fn.records.items;
  as_made_are : put_records (map as_made (with_numbers l.numbers.items l.list.items)) (into_iter_items l.record-iterator)
      ≡ put_records (map as_made (with_numbers l.fn.numbers.items l.fn.list.items)) l.fn.records.items;
  in_step : (tables : Tables) → IsInStep tables (with_numbers l.fn.numbers.items l.fn.list.items) → ReadNow tables l.fn.records.items
      → IsInStep tables (with_numbers l.numbers.items l.list.items) × ReadNow tables (into_iter_items l.record-iterator);
}
