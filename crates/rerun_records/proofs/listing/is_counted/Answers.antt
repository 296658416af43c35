use Rattle.std.proofs.Common.{◌≡◌, ◌∙◌, Some, false, sym}
use Rattle.std.specs.Prelude.{nat_eq, slice_get}
use Rattle.rerun_records.proofs.Homes.{home_there}
use Rattle.rerun_records.proofs.WithNumbers.{counted_at, of_not}
use Rattle.rerun_records.proofs.listing.is_counted.Goals as goal

pub returns-in-Some : goal.returns-in-Some
returns-in-Some c = record {
  counted = λ e.
      (let there : slice_get c.args.numbers.now c.args.place ≡ Some c.in-Some.number.now = home_there c.args.numbers.now c.args.place c.in-Some.number.now c.in-Some.ensures.lookup.3.0 c.in-Some.ensures.lookup.1 in
      let some : nat_eq c.in-Some.number.now 0 ≡ false = sym c.is_fresh.ensures.fresh ∙ of_not c.is_fresh.result e in
      counted_at c.args.numbers.now c.args._list.now c.args.place c.in-Some.number.now c.requires.numbers.places there some);
}
