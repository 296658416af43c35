use Rattle.std.proofs.Common.{arith, refl, []}
use Rattle.rerun_records.proofs.WithNumbers.{none_numbers}
use Rattle.rerun_records.proofs.keeping.keep_each.Goals as goal

pub loop-next-init : goal.loop-next-init
loop-next-init c = record {
  behind = omega arith;
  numbers = c.requires.numbers;
  end = refl;
  room = c.requires.room;
  numbered = c.requires.no_places;
  as_made_are = refl;
  single = (none_numbers [] [] refl refl).single;
  put = refl;
  in_step = λ tables n. (refl, n);
  long = refl;
}
