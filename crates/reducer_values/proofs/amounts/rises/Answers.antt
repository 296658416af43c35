use Rattle.std.proofs.Common.{rules, ◌<◌, ◌≤◌, ◌-◌, ℤ, pos, arith, length, get_or}
use Rattle.std.specs.Int.{w64}
use Rattle.std.specs.Prelude.{FitsSigned, ◌<ℤ◌}
use Rattle.std.proofs.lemmas.Int.{ints, to_z-of_z}
use Rattle.std.proofs.lemmas.List.{get_or_default}
use Rattle.reducer_values.proofs.Ends.{rising_next}
use Rattle.reducer_values.proofs.amounts.rises.Goals as goal

pub loop-i-preserved : goal.loop-i-preserved
loop-i-preserved c =
    let xs = c.args.amounts.now in
    let i = c.loop-i.i in
    let a : ℤ × ℤ = get_or xs (i - 1) (pos 0, pos 0) in
    let b : ℤ × ℤ = get_or xs i (pos 0, pos 0) in
    let f : FitsSigned w64 a.0 = search rules in
    let g : FitsSigned w64 b.0 = search rules in
    let from : 1 ≤ i = c.loop-i.invariant.from in
    let h : i < length xs = c.loop-i-test.true in
    let k : i - 1 < length xs = omega (arith, from, h) in
    let test = simp to_z-of_z at c.if-amounts-i.false in
    let lt : a.0 <ℤ b.0 = grind (arith, ints) in
    record {
      from = omega (arith, from);
      rises = rising_next xs i a b from h (get_or_default xs (i - 1) (pos 0, pos 0) a k) (get_or_default xs i (pos 0, pos 0) b h) lt c.loop-i.invariant.rises;
    }
