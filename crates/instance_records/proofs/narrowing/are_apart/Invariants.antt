use Rattle.std.proofs.Common.{◌≡◌, true, [], ◌∷◌, drop}
use Rattle.std.specs.List.{flat_map}
use Rattle.meaning.specs.Every.{every}
use Rattle.record_theory.specs.InStep.{is_apart}
use Rattle.instance_records.specs.Readings.{shared_notes, is_covered_share}
use Rattle.instance_records.proofs.narrowing.are_apart.Given as goal

abbrev pub invariant-loop-part : goal.invariant-loop-part
invariant-loop-part l = record {
  covered : every is_covered_share (drop l.part-index l.parts) ≡ true;
  apart : every (is_apart (l.change ∷ [])) (flat_map shared_notes (drop l.part-index l.parts)) ≡ true → every (is_apart (l.change ∷ [])) (flat_map shared_notes l.parts) ≡ true;
}
