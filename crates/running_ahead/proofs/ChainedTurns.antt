-- Iterations one after another: parted, and as those of one instance.
use Rattle.std.proofs.Common.{◌≡◌, ℕ, zero, suc, ◌+◌, ◌<◌, ◌≤◌, List, refl, subst, arith}
use Rattle.evaluation.specs.declared.slot.Slot.{Slot}
use Rattle.positions.specs.declared.work.Loop.{Loop}
use Rattle.positions.specs.declared.work.Share.{Share}
use Rattle.positions.specs.declared.work.Work.TheVariants.{Turns}
use Rattle.positions.specs.declared.phase.Phase.TheVariants.{Running}
use Rattle.positions.specs.Setting.{Setting}
use Rattle.positions.specs.Activations.{PlainActivation}
use Rattle.positions.specs.Layers.{PlainLayer}
use Rattle.positions.specs.Strands.{PlainStrand}
use Rattle.activations.specs.Turned.{behind, turned_by}
use Rattle.own_statements.specs.Paths.{HasRoomAbove, stacked, topped}
use Rattle.running_ahead.specs.Ahead.{IsAhead, TurnsOn}
use Rattle.running_ahead.specs.Chains.{IsTurn, AreTurns, IsWithin, none, more}
use Rattle.running_ahead.proofs.Paths.{ahead_here, ahead_join}
use Rattle.running_ahead.proofs.Turned.{next_turn, turns_there, turns_left, turns_procedure, turns_slots, more_behind}

-- so many first ones, and then the others
pub record ArePartedAt (setting : Setting) (l : Loop) (p : ℕ) (slots : List Slot) (left : ℕ) (i : ℕ) (u : PlainLayer) (a b : ℕ) (v : PlainLayer) : Type 0 where
  pub between : PlainLayer
  pub first : AreTurns setting l p slots left i u a between
  pub second : AreTurns setting l p slots left (i + a) between b v

module _ (setting : Setting) (l : Loop) (p : ℕ) (slots : List Slot) (left : ℕ) (i : ℕ) (u : PlainLayer) where
  pub parted : (a b n : ℕ) (v : PlainLayer) → n ≡ a + b → AreTurns setting l p slots left i u n v → ArePartedAt setting l p slots left i u a b v
  parted a zero n v e turns =
      let all : n ≡ a = omega (arith, e) in
      record { between = v; first = subst (λ m. AreTurns setting l p slots left i u m v) all turns; second = none }
  parted a (suc b) zero v e none = absurd (let wrong : ⊥ = omega (arith, e) in wrong)
  parted a (suc b) (suc n) w e (more m v x before turn) =
      let fewer : n ≡ a + b = omega (arith, e) in
      let those = parted a b n v fewer before in
      let number : i + n ≡ (i + a) + b = omega (arith, fewer) in
      record { between = those.between; first = those.first; second = more b v w those.second (subst (λ j. IsTurn setting l p slots left j v w) number turn) }

-- those of one instance
pub chained_turns : (setting : Setting) (l : Loop) (h : Share) (a : PlainActivation) (u : PlainLayer) (n : ℕ) (v : PlainLayer) → AreTurns setting l a.procedure a.slots a.left h.first u n v → a.work ≡ Turns l h → n ≤ h.count
    → TurnsOn setting a u (turned_by n l h a) v
chained_turns setting l h a u zero v none there fits s home = ahead_here setting (topped Running a u s)
chained_turns setting l h a u (suc n) w (more m v x before turn) there fits s home =
    let less : n < h.count = omega (arith, fits) in
    let few : n ≤ h.count = omega (arith, fits) in
    let b = turned_by n l h a in
    ahead_join setting (topped Running a u s) (topped Running b v s) (topped Running (turned_by (suc n) l h a) w s) (chained_turns setting l h a u n v before there few s home)
    (subst (λ (z : PlainActivation). IsAhead setting (topped Running b v s) (topped Running z w s)) (next_turn n l h a)
    (turn b (behind n h) (turns_procedure n l h a) (turns_slots n l h a) (turns_left n l h a) (turns_there n l h a there) refl (more_behind n h less) s home))

-- the next one stands above it
pub chained_stay : (setting : Setting) (l : Loop) (h : Share) (a : PlainActivation) (u : PlainLayer) (n k : ℕ) (xs : List PlainActivation) (v : PlainLayer) → IsWithin setting l a.procedure a.slots a.left h.first n k u xs v → a.work ≡ Turns l h → n < h.count
    → (s : PlainStrand) → HasRoomAbove s → IsAhead setting (topped Running a u s) (stacked (suc k) (turned_by (suc n) l h a) xs v s)
chained_stay setting l h a u n k xs v within there less s home =
    let few : n ≤ h.count = omega (arith, less) in
    let b = turned_by n l h a in
    ahead_join setting (topped Running a u s) (topped Running b within.before s) (stacked (suc k) (turned_by (suc n) l h a) xs v s) (chained_turns setting l h a u n within.before within.turns there few s home)
    (subst (λ (z : PlainActivation). IsAhead setting (topped Running b within.before s) (stacked (suc k) z xs v s)) (next_turn n l h a)
    (within.stay b (behind n h) (turns_procedure n l h a) (turns_slots n l h a) (turns_left n l h a) (turns_there n l h a there) refl (more_behind n h less) s home))
