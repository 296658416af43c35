-- Iterations whose statements are done in layers of their own are recorded, one behind another.
use Rattle.std.proofs.Common.{◌≡◌, ◌∙◌, ℕ, zero, suc, ◌+◌, ◌-◌, ◌==◌, ℤ, pos, ◌+ℤ◌, false, true, List, [], ◌∷◌, None, map, sym, ap, subst, add-one}
use Rattle.std.proofs.Math.IntN.{+ℤ_assoc}
use Rattle.linked_program.specs.CodeView.{expression, memo_of, slots_of}
use Rattle.evaluation.specs.declared.slot.Slot.{Slot}
use Rattle.positions.specs.declared.phase.Phase.TheVariants.{Running}
use Rattle.positions.specs.declared.work.Loop.{Loop}
use Rattle.positions.specs.declared.work.Share.{Share}
use Rattle.positions.specs.declared.work.Work.TheVariants.{Turns}
use Rattle.positions.specs.Activations.{waiting}
use Rattle.positions.specs.Code.{PlainLoop, loop_at}
use Rattle.positions.specs.Layers.{PlainLayer}
use Rattle.positions.specs.Setting.{Setting}
use Rattle.positions.specs.Tallies.{PlainTally}
use Rattle.positions.specs.Advance.{rest_of}
use Rattle.own_statements.specs.Fills.{IsCounted}
use Rattle.running_ahead.specs.Stepped.{IsStepped}
use Rattle.own_statements.specs.Leaves.{PlainLeaf, IsLeaf, AreLeaves, no_leaf, one_behind}
use Rattle.running_ahead.specs.Leaves.{Gathered, gathered, gathered_by, IsRecorded, AreRecorded, none, more, arguments_then}
use Rattle.recording_ahead.proofs.LeafSteps.{leaf_steps}

module _ (setting : Setting) (l : Loop) (j : PlainLoop) where
  -- the iteration of that number, where the loop's instance has so many levels below it
  abbrev pub leaf_of : ℕ → ℕ → PlainLeaf
  leaf_of left i = record { callee = j.callee; size = slots_of setting.codes j.callee; left = left - 1; number = l.low +ℤ pos i }

  module _ (p : ℕ) (slots : List Slot) (left : ℕ) (found : j ≡ loop_at setting.codes p l) (memo : memo_of setting.codes j.callee ≡ true) (deep : (left == 0) ≡ false)
      (counted : IsCounted slots j.variable (map expression j.arguments)) where
    is_recorded : (i : ℕ) (v w : PlainLayer) (t u : PlainTally) (xs : List ℤ) → IsLeaf setting (leaf_of left i) v t w u
        → IsRecorded setting l p slots left i (gathered_by v t xs) (gathered_by w u ((l.low +ℤ pos i) ∷ []))
    is_recorded i v w t u xs leaf a h procedure same levels there first some s amid =
        let found_here : j ≡ loop_at setting.codes a.procedure l = found ∙ ap (λ (f : ℕ). loop_at setting.codes f l) (sym procedure) in
        let deep_here : (a.left == 0) ≡ false = subst (λ (k : ℕ). (k == 0) ≡ false) (sym levels) deep in
        let counted_here : IsCounted a.slots j.variable (map expression j.arguments) = subst (λ (zs : List Slot). IsCounted zs j.variable (map expression j.arguments)) (sym same) counted in
        let leaf_here : IsLeaf setting (leaf_of a.left h.first) v t w u =
        subst (λ (k : ℕ). IsLeaf setting (leaf_of k h.first) v t w u) (sym levels) (subst (λ (k : ℕ). IsLeaf setting (leaf_of left k) v t w u) (sym first) leaf) in
        subst (λ (k : ℕ). IsStepped setting (gathered Running a (gathered_by v t xs) s) (gathered Running (waiting false None (Turns l (rest_of h)) a) (gathered_by w u ((l.low +ℤ pos k) ∷ [])) s)) first
        (leaf_steps setting l h j a v t xs s there some found_here memo deep_here counted_here amid w u leaf_here)

    one_longer : (h : Share) (xs : List ℤ) (x : Gathered) (n : ℕ) (v w : PlainLayer) (t u : PlainTally) → AreRecorded setting l p slots left h.first x n (gathered_by v t (arguments_then n l h xs))
        → IsLeaf setting (leaf_of left (h.first + n)) v t w u → AreRecorded setting l p slots left h.first x (suc n) (gathered_by w u (arguments_then (suc n) l h xs))
    one_longer h xs x n v w t u before leaf =
        let y = gathered_by v t (arguments_then n l h xs) in
        let z = gathered_by w u ((l.low +ℤ pos (h.first + n)) ∷ []) in
        let opened : u.opened ≡ t.opened = ap (λ (o : PlainTally). o.opened) leaf.tally in
        more n y z before opened (is_recorded (h.first + n) v w t u (arguments_then n l h xs) leaf)

    -- one more behind so many
    pub one_more : (h : Share) (xs : List ℤ) (x : Gathered) (n : ℕ) (v w : PlainLayer) (t u : PlainTally) → AreRecorded setting l p slots left h.first x n (gathered_by v t (arguments_then n l h xs))
        → IsLeaf setting (leaf_of left (h.first + n)) v t w u → AreRecorded setting l p slots left h.first x (n + 1) (gathered_by w u (arguments_then (n + 1) l h xs))
    one_more h xs x n v w t u before leaf =
        subst (λ (k : ℕ). AreRecorded setting l p slots left h.first x k (gathered_by w u (arguments_then k l h xs))) (sym (add-one n)) (one_longer h xs x n v w t u before leaf)

    -- leaves from an iteration on are iterations that are recorded
    pub leaves_recorded : (h : Share) (xs : List ℤ) (n : ℕ) (v w : PlainLayer) (t u : PlainTally) → AreLeaves setting (leaf_of left h.first) v t n w u
        → AreRecorded setting l p slots left h.first (gathered_by v t xs) n (gathered_by w u (arguments_then n l h xs))
    leaves_recorded h xs zero v w t u no_leaf = none
    leaves_recorded h xs (suc n) v w t u (one_behind m k o z y before leaf) =
        let number : (l.low +ℤ pos h.first) +ℤ pos n ≡ l.low +ℤ pos (h.first + n) = +ℤ_assoc l.low (pos h.first) (pos n) in
        let here : IsLeaf setting (leaf_of left (h.first + n)) k o w u =
        subst (λ (i : ℤ). IsLeaf setting (record { callee = j.callee; size = slots_of setting.codes j.callee; left = left - 1; number = i }) k o w u) number leaf in
        one_longer h xs (gathered_by v t xs) n k w o u (leaves_recorded h xs n v k t o before) here

-- as they are of an iteration's number in its loop
pub leaves_at : (setting : Setting) (l : Loop) (j : PlainLoop) (left i : ℕ) (size levels : ℕ) (number : ℤ) (n : ℕ) (v w : PlainLayer) (t u : PlainTally)
    → size ≡ slots_of setting.codes j.callee → levels ≡ left → number ≡ l.low +ℤ pos i
    → AreLeaves setting (record { callee = j.callee; size = size; left = levels - 1; number = number }) v t n w u → AreLeaves setting (leaf_of setting l j left i) v t n w u
leaves_at setting l j left i size levels number n v w t u slots_is left_is number_is those =
    subst (λ (x : ℤ). AreLeaves setting (record { callee = j.callee; size = slots_of setting.codes j.callee; left = left - 1; number = x }) v t n w u) number_is
    (subst (λ (q : ℕ). AreLeaves setting (record { callee = j.callee; size = slots_of setting.codes j.callee; left = q - 1; number = number }) v t n w u) left_is
    (subst (λ (q : ℕ). AreLeaves setting (record { callee = j.callee; size = q; left = levels - 1; number = number }) v t n w u) slots_is those))
