use Rattle.std.proofs.Common.{◌≡◌, false, take}
use Rattle.gathered_records.specs.Summing.{at_places, HasSummed}
use Rattle.gathered_records.proofs.flat.flat_sum_at.Given as goal

abbrev pub invariant-loop-place : goal.invariant-loop-place
invariant-loop-place l = record {
  summed : HasSummed l.kinds (at_places l.records (take l.place-index l.places)) l.sum;
  keeps : l.sum.keeps ≡ false;
}
