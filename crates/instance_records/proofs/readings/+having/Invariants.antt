use Rattle.std.proofs.Common.{◌≡◌, drop, true}
use Rattle.std.specs.List.{flat_map}
use Rattle.meaning.specs.Every.{every}
use Rattle.instance_records.specs.Readings.{shared_notes, is_covered_share}
use Rattle.record_theory.specs.Same.{is_read}
use Rattle.instance_records.proofs.readings.+having.Given as goal

abbrev pub invariant-parts_have-loop-part : goal.invariant-parts_have-loop-part
invariant-parts_have-loop-part l = record {
  covered : every is_covered_share (drop l.part-index l.parts) ≡ true;
  rest : is_read (flat_map shared_notes l.parts) l.note ≡ is_read (flat_map shared_notes (drop l.part-index l.parts)) l.note;
}
