use Rattle.std.proofs.Common.{rules, ◌≡◌, ℕ, ◌+◌, ◌-◌, ◌/◌, ◌<◌, length, Some, true, false, arith, w64, to_z, of_z, FitsSigned, refl, get_or}
use Rattle.std.proofs.lemmas.Int.{to_z-of_z}
use Rattle.std.proofs.lemmas.Option.{slice_get_read}
use Rattle.std.specs.Prelude.{slice_get, int_lt}
use Rattle.input_tables.specs.Pages.{lower_count}
use Rattle.input_tables.proofs.Orders.{place_past, place_upto, place_within}
use Rattle.input_tables.proofs.places.search.Goals as goal

pub loop-low-init : goal.loop-low-init
loop-low-init g c = record {
  order = omega arith;
  within = omega arith;
  passed = omega arith;
  reached = place_within (to_z w64 (of_z w64 c.args.number)) c.args.entries.now;
}

pub loop-low-preserved-then-entries-middle : goal.loop-low-preserved-then-entries-middle
loop-low-preserved-then-entries-middle g c =
    let middle : ℕ = c.loop-low.low + (c.loop-low.high - c.loop-low.low) / 2 in
    let xs = c.args.entries.now in
    let e = c.index-entries-middle.result in
    let h : middle < length xs = omega (arith, c.loop-low.invariant.within, c.loop-low-test.true) in
    let there : slice_get xs middle ≡ Some e = slice_get_read xs (length xs) middle e refl h c.index-entries-middle.is in
    let fits : FitsSigned w64 e.0 = search rules in
    let is : e ≡ get_or xs middle e = c.index-entries-middle.is in
    let test = rw (← is) at c.if-entries-middle.true in
    let below : int_lt e.0 (to_z w64 (of_z w64 c.args.number)) ≡ true = rw (to_z-of_z w64 e.0 fits) at test in
    let past : middle < lower_count (to_z w64 (of_z w64 c.args.number)) xs = place_past (to_z w64 (of_z w64 c.args.number)) xs middle e c.requires there below in
    record {
      order = omega (arith, c.loop-low-test.true);
      within = c.loop-low.invariant.within;
      passed = omega (arith, past);
      reached = c.loop-low.invariant.reached;
    }

pub loop-low-preserved : goal.loop-low-preserved
loop-low-preserved g c =
    let middle : ℕ = c.loop-low.low + (c.loop-low.high - c.loop-low.low) / 2 in
    let xs = c.args.entries.now in
    let e = c.index-entries-middle.result in
    let h : middle < length xs = omega (arith, c.loop-low.invariant.within, c.loop-low-test.true) in
    let there : slice_get xs middle ≡ Some e = slice_get_read xs (length xs) middle e refl h c.index-entries-middle.is in
    let fits : FitsSigned w64 e.0 = search rules in
    let is : e ≡ get_or xs middle e = c.index-entries-middle.is in
    let test = rw (← is) at c.if-entries-middle.false in
    let upper : int_lt e.0 (to_z w64 (of_z w64 c.args.number)) ≡ false = rw (to_z-of_z w64 e.0 fits) at test in
    record {
      order = omega arith;
      within = omega (arith, h);
      passed = c.loop-low.invariant.passed;
      reached = place_upto (to_z w64 (of_z w64 c.args.number)) xs middle e there upper;
    }
