use Rattle.std.proofs.Common.{◌≡◌, ◌≤◌, true, [], ◌∷◌, length, take}
use Rattle.std.specs.List.{flat_map}
use Rattle.meaning.specs.Every.{every}
use Rattle.record_theory.specs.InStep.{is_apart}
use Rattle.instance_records.specs.Readings.{shared_notes}
use Rattle.instance_records.proofs.narrowing.first_touched.Given as goal

abbrev pub invariant-loop-place : goal.invariant-loop-place
invariant-loop-place l = record {
  within : l.last ≤ length l.parts;
  apart : every (is_apart (l.change ∷ [])) (flat_map shared_notes (take l.place l.parts)) ≡ true;
}
