use Rattle.std.proofs.Common.{◌≡◌, ◌≤◌, [], length, take, drop, map}
use Rattle.meaning.specs.Tables.{Tables}
use Rattle.record_theory.specs.Record.{instance_number, as_made}
use Rattle.record_theory.specs.InStep.{IsInStep, ReadNow}
use Rattle.record_theory.specs.Commits.{put_records, AreSingle}
use Rattle.rerun_records.proofs.keeping.keep_each.Given as goal

abbrev pub invariant-loop-next : goal.invariant-loop-next
invariant-loop-next l = record {
  behind : l.kept ≤ l.next;
  numbers : drop l.next l.numbers ≡ map instance_number (drop l.next l.list);
  end : l.next-end ≡ length l.list;
  room : length l.list ≤ l.places.room;
  numbered : l.places.numbers ≡ map instance_number (take l.kept l.list);
  as_made_are : map as_made (take l.kept l.list) ≡ take l.kept l.list;
  single : AreSingle (take l.kept l.list);
  put : put_records (take l.kept l.list) (drop l.next l.list) ≡ put_records [] l.fn.list;
  in_step : (tables : Tables) → ReadNow tables l.fn.list → IsInStep tables (take l.kept l.list) × ReadNow tables (drop l.next l.list);
  long : length l.list ≡ length l.fn.list;
}
