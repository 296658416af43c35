use Rattle.std.proofs.Common.{rules, ◌≡◌, ◌<◌, ◌+◌, ◌-◌, ◌/◌, ◌++◌, ℕ, arith, length, get_or, ℤ, pos, add-one, take, drop, subst, sym}
use Rattle.std.specs.Int.{w64}
use Rattle.std.specs.Prelude.{FitsSigned, ◌<ℤ◌}
use Rattle.std.proofs.lemmas.Int.{to_z-of_z}
use Rattle.std.proofs.lemmas.List.{get_or_default}
use Rattle.monoid_laws.specs.Kinds.{add_at}
use Rattle.monoid_laws.proofs.Amounts.{add_at_past, lt_holds}
use Rattle.reducer_values.proofs.adding.key_index.Goals as goal

pub loop-low-preserved-then-amounts-middle : goal.loop-low-preserved-then-amounts-middle
loop-low-preserved-then-amounts-middle c =
    let middle : ℕ = c.loop-low.low + (c.loop-low.high - c.loop-low.low) / 2 in
    let xs = c.args.amounts.now in
    let e : ℤ × ℤ = get_or xs middle (pos 0, pos 0) in
    let f : FitsSigned w64 c.args.key = c.ranges.key in
    let g : FitsSigned w64 e.0 = search rules in
    let h : middle < length xs = omega (arith, c.loop-low.invariant.within, c.loop-low-test.true) in
    let b : e.0 <ℤ c.args.key = lt_holds e.0 c.args.key (simp to_z-of_z at c.if-amounts-middle.true) in
    record {
      order = search rules;
      within = c.loop-low.invariant.within;
      passed = subst (λ (z : ℤ). (v : ℤ) → add_at z v xs ≡ take (middle + 1) xs ++ add_at z v (drop (middle + 1) xs)) (sym (to_z-of_z w64 c.args.key f))
          (λ v. add_at_past c.args.key v xs middle (middle + 1) e c.requires h (add-one middle) (get_or_default xs middle (pos 0, pos 0) e h) b);
      reached = c.loop-low.invariant.reached;
    }
