use Rattle.std.proofs.Common.{◌≡◌, length, take, map}
use Rattle.evaluation.specs.Short.{note_of}
use Rattle.instance_records.proofs.readings.are_same.Given as goal

abbrev pub invariant-loop-place : goal.invariant-loop-place
invariant-loop-place l = record {
  end : l.place-end ≡ length l.own;
  many : length l.own ≡ length l.others;
  same : map note_of (take l.place l.own) ≡ map note_of (take l.place l.others);
}
