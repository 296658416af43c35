use Rattle.std.proofs.Common.{◌/◌, ◌-◌, ◌+◌, arith}
use Rattle.rerun_records.proofs.Passing.{ends_before}
use Rattle.rerun_records.proofs.skips.first_behind.Goals as goal

pub loop-low-preserved-then-until-place : goal.loop-low-preserved-then-until-place
loop-low-preserved-then-until-place c =
    let x = c.index-skips-middle.result in
    let low = c.loop-low.low in
    let high = c.loop-low.high in
    let whole = c.loop-low.invariant.within in
    let some = c.loop-low-test.true in
    let is = c.until.ensures.until in
    let until = c.if-until-place.true in
    record {
      order = omega (arith, some);
      within = whole;
      before = λ places records done h.
          ends_before places records done c.args.skips.now (low + (high - low) / 2) c.args.place x h (omega (arith, whole, some)) c.index-skips-middle.is (omega (arith, is, until));
    }
