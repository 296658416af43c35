use Rattle.std.proofs.Common.{rules, ◌≡◌, ◌<◌, ◌≤◌, ◌+◌, ◌∙◌, ◌++◌, ◌∷◌, ◌⊎◌, inl, inr, [], ap, arith, length, get_or, drop, ℤ, pos, add-one}
use Rattle.std.specs.Int.{w64}
use Rattle.std.specs.Prelude.{FitsSigned, ◌+ℤ◌, ◌<ℤ◌}
use Rattle.std.proofs.lemmas.Int.{to_z-of_z}
use Rattle.std.proofs.lemmas.List.{get_or_default, take_rest}
use Rattle.monoid_laws.specs.Kinds.{wrap}
use Rattle.monoid_laws.proofs.Amounts.{merges-left, merges-right, merges-both, merges-rest, lt_holds, lt_fails, le_both}
use Rattle.reducer_values.proofs.adding.merge_amounts.Goals as goal
use Rattle.reducer_values.proofs.adding.merge_amounts.Goals.{then-loop-i-test+else-j-right, else-loop-i-test}

pub loop-i-preserved-then-key-other : goal.loop-i-preserved-then-key-other
loop-i-preserved-then-key-other c =
    let i = c.loop-i.i in
    let j = c.loop-i.j in
    let ls = c.args.left.now in
    let rs = c.args.right.now in
    let e : ℤ × ℤ = get_or ls i (pos 0, pos 0) in
    let f : ℤ × ℤ = get_or rs j (pos 0, pos 0) in
    let e0 : FitsSigned w64 e.0 = search rules in
    let e1 : FitsSigned w64 e.1 = search rules in
    let f0 : FitsSigned w64 f.0 = search rules in
    let h : i < length ls = c.loop-i-test.true in
    let g : j < length rs = c.if-j-right.true in
    let b : e.0 <ℤ f.0 = lt_holds e.0 f.0 (simp to_z-of_z at c.if-key-other.true) in
    let m : c.push.new.self.items ≡ c.loop-i.sums.items ++ e ∷ [] = simp to_z-of_z at c.in_ok-push.ensures.items in
    record {
      left_within = omega arith;
      right_within = c.loop-i.invariant.right_within;
      so_far = merges-left ls rs c.loop-i.sums.items i j c.requires.left_rises c.requires.right_rises c.loop-i.invariant.so_far e f h g
          (get_or_default ls i (pos 0, pos 0) e h) (get_or_default rs j (pos 0, pos 0) f g) c.push.new.self.items (i + 1) (add-one i) b m;
    }

pub loop-i-preserved-then-other-key : goal.loop-i-preserved-then-other-key
loop-i-preserved-then-other-key c =
    let i = c.loop-i.i in
    let j = c.loop-i.j in
    let ls = c.args.left.now in
    let rs = c.args.right.now in
    let e : ℤ × ℤ = get_or ls i (pos 0, pos 0) in
    let f : ℤ × ℤ = get_or rs j (pos 0, pos 0) in
    let e0 : FitsSigned w64 e.0 = search rules in
    let f0 : FitsSigned w64 f.0 = search rules in
    let f1 : FitsSigned w64 f.1 = search rules in
    let h : i < length ls = c.loop-i-test.true in
    let g : j < length rs = c.if-j-right.true in
    let b : f.0 <ℤ e.0 = lt_holds f.0 e.0 (simp to_z-of_z at c.if-other-key.true) in
    let m : c.push-then-other-key.new.self.items ≡ c.loop-i.sums.items ++ f ∷ [] = simp to_z-of_z at c.in_ok-push-2.ensures.items in
    record {
      left_within = c.loop-i.invariant.left_within;
      right_within = omega arith;
      so_far = merges-right ls rs c.loop-i.sums.items i j c.requires.left_rises c.requires.right_rises c.loop-i.invariant.so_far e f h g
          (get_or_default ls i (pos 0, pos 0) e h) (get_or_default rs j (pos 0, pos 0) f g) c.push-then-other-key.new.self.items (j + 1) (add-one j) b m;
    }

pub loop-i-preserved : goal.loop-i-preserved
loop-i-preserved c =
    let i = c.loop-i.i in
    let j = c.loop-i.j in
    let ls = c.args.left.now in
    let rs = c.args.right.now in
    let e : ℤ × ℤ = get_or ls i (pos 0, pos 0) in
    let f : ℤ × ℤ = get_or rs j (pos 0, pos 0) in
    let e0 : FitsSigned w64 e.0 = search rules in
    let e1 : FitsSigned w64 e.1 = search rules in
    let f0 : FitsSigned w64 f.0 = search rules in
    let f1 : FitsSigned w64 f.1 = search rules in
    let t : FitsSigned w64 c.sum_of.result = search rules in
    let h : i < length ls = c.loop-i-test.true in
    let g : j < length rs = c.if-j-right.true in
    let b : e.0 ≡ f.0 = le_both e.0 f.0 (lt_fails f.0 e.0 (simp to_z-of_z at c.if-other-key.false)) (lt_fails e.0 f.0 (simp to_z-of_z at c.if-key-other.false)) in
    let s : c.sum_of.result ≡ wrap (e.1 +ℤ f.1) = simp to_z-of_z at c.sum_of.ensures in
    let m : c.push-else-other-key.new.self.items ≡ c.loop-i.sums.items ++ (e.0, c.sum_of.result) ∷ [] = simp to_z-of_z at c.in_ok-push-3.ensures.items in
    record {
      left_within = omega arith;
      right_within = omega arith;
      so_far = merges-both ls rs c.loop-i.sums.items i j c.requires.left_rises c.requires.right_rises c.loop-i.invariant.so_far e f h g
          (get_or_default ls i (pos 0, pos 0) e h) (get_or_default rs j (pos 0, pos 0) f g) c.push-else-other-key.new.self.items (i + 1) (j + 1) (e.0, c.sum_of.result)
          (add-one i) (add-one j) b (ap (λ z. (e.0, z)) s) m;
    }

pub returns : goal.returns
returns c =
    let i = c.loop-i.i in
    let j = c.loop-i.j in
    let ls = c.args.left.now in
    let rs = c.args.right.now in
    let m : c.extend_from_slice.new.self.items ≡ c.loop-i.sums.items ++ drop i ls = simp take_rest at c.in_ok-extend_from_slice.ensures.items in
    let n : c.extend_from_slice-2.new.self.items ≡ c.extend_from_slice.new.self.items ++ drop j rs = simp take_rest at c.in_ok-extend_from_slice-2.ensures.items in
    let o : (length ls ≤ i) ⊎ (length rs ≤ j) = elim c.loop-i-test.branch [ then-loop-i-test+else-j-right w ↦ inr w.if-j-right.false | else-loop-i-test w ↦ inl w.loop-i-test.false ] in
    n ∙ ap (λ l. l ++ drop j rs) m
    ∙ merges-rest ls rs c.loop-i.sums.items i j c.requires.left_rises c.requires.right_rises c.loop-i.invariant.so_far o
