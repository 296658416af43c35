-- Iterations of a loop: one of them as small steps of the strand.
use Rattle.std.proofs.Common.{◌≡◌, ◌++◌, ◌∷◌, [], zero, suc, ◌-◌, ◌==◌, ℤ, pos, ◌+ℤ◌, ◌+◌, Bool, true, false, List, Some, None, map, slice_set, refl, sym, ap, subst, ◌∙◌, ℕ}
use Rattle.meaning.specs.Elision.{depth_limit}
use Rattle.linked_program.specs.CodeView.{expression, memo_of, slots_of}
use Rattle.evaluation.specs.declared.slot.Slot.{Slot}
use Rattle.evaluation.specs.declared.slot.Slot.TheVariants.{Has}
use Rattle.evaluation.specs.Values.{NumberedOut, entry_at}
use Rattle.positions.specs.declared.phase.Phase.{Phase}
use Rattle.positions.specs.declared.phase.Phase.TheVariants.{Running}
use Rattle.positions.specs.declared.work.Loop.{Loop}
use Rattle.positions.specs.declared.work.Share.{Share}
use Rattle.positions.specs.declared.work.Work.TheVariants.{Block, Turns}
use Rattle.positions.specs.Activations.{PlainActivation, waiting, made, first_of}
use Rattle.positions.specs.Code.{PlainLoop, loop_at}
use Rattle.positions.specs.Layers.{PlainLayer, entering}
use Rattle.positions.specs.Setting.{Setting}
use Rattle.positions.specs.Strands.{PlainStrand}
use Rattle.positions.specs.Advance.{advanced, evaluated, turn_slots, rest_of}
use Rattle.own_statements.specs.Fills.{Fills}
use Rattle.own_statements.specs.Paths.{ComesTo, HasRoomAbove, MayPass, StopsBy, stacked, topped}
use Rattle.small_steps.specs.Steps.{nested_plain}
use Rattle.small_steps.proofs.Nesting.{turned_more}
use Rattle.meaning.specs.declared.tree.Way.TheVariants.{Call}
use Rattle.running_ahead.specs.Ahead.{IsAhead, TurnsOn}
use Rattle.running_ahead.specs.Chains.{IsTurn, IsStay}
use Rattle.running_ahead.proofs.OwnAhead.{room_over}
use Rattle.running_ahead.proofs.Paths.{with_child, called_plain, turned_next, enter_ahead, child_returns, child_stays}

-- where others stand above an instance, what it has had on top before doesn't matter
pub stacked_same : (k : ℕ) (b : PlainActivation) (ys : List PlainActivation) (m : PlainLayer) (s : PlainStrand) (a : PlainActivation) (l : PlainLayer) (f : Phase) → stacked k b ys m s ≡ stacked k b ys m (topped f a l s)
stacked_same zero b ys m s a l f = refl
stacked_same (suc k) b [] m s a l f = refl
stacked_same (suc k) b (y ∷ ys) m s a l f = stacked_same k y ys m (record s { path = s.path ++ b.children ∷ []; below = b ∷ s.below }) a l f

module _ (setting : Setting) (site : Loop) (h : Share) (j : PlainLoop) (a : PlainActivation) (l : PlainLayer) where
  -- the instance that has called the next iteration
  abbrev pub on_turn : PlainActivation
  on_turn = waiting false None (Turns site (rest_of h)) a

  -- the slots that the iteration is entered with, and what was read for them
  abbrev pub turn_entry : NumberedOut (List Slot)
  turn_entry = entry_at setting.tables (slice_set a.slots j.variable (Has (site.low +ℤ pos h.first))) (slots_of setting.codes j.callee) (map expression j.arguments)

  module _ (there : a.work ≡ Turns site h) (more : (h.count == 0) ≡ false) (found : j ≡ loop_at setting.codes a.procedure site) (memo : memo_of setting.codes j.callee ≡ false) (deep : (a.left == 0) ≡ false)
      (slots : List Slot) (m n : PlainLayer) (b : PlainActivation) (filled : Fills turn_entry slots l m) (kinds : n.kinds ≡ m.kinds) where
    abbrev pub iteration : PlainActivation
    iteration = made j.callee slots (Block (first_of 0)) (a.left - 1)

    abbrev pub layer_then : PlainLayer
    layer_then = entering j.callee (depth_limit - (a.left - 1)) m

    next : (s : PlainStrand) (kit : Bool) → evaluated j.number turn_entry (nested_plain j.number Call None (Turns site (rest_of h)) j.callee) (topped Running a l s) ≡ advanced setting kit (topped Running a l s)
    next s kit =
        let x = topped Running a l s in
        called_plain setting kit j.number Call None (Turns site (rest_of h)) j.callee (map expression j.arguments) (turn_slots j site h x) x memo
        ∙ turned_more setting kit site h x j more found ∙ turned_next setting kit site h x refl there

    -- the iteration may pass syncs, and call others
    may_child : (s : PlainStrand) → HasRoomAbove s → MayPass true (with_child setting Call None (Turns site (rest_of h)) j.callee slots (record (topped Running a l s) { layer = m }))
    may_child s home = λ _. (home.entry (a.children + 1) [], let u = with_child setting Call None (Turns site (rest_of h)) j.callee slots (record (topped Running a l s) { layer = m }) in room_over (a.children + 1) s home u.top u.layer u.phase u.below)

    pub turn_back : (v : ℤ) → ComesTo setting true iteration layer_then (Some v) b n → TurnsOn setting a l on_turn n
    turn_back v come s home =
        let x = topped Running a l s in
        let y = record x { layer = m } in
        let w = Turns site (rest_of h) in
        let t = topped Running on_turn n s in
        enter_ahead setting j.number turn_entry Call None w j.callee slots x y t filled.0 (ap (λ (k : PlainLayer). record x { layer = k }) filled.1)
        (child_returns setting Call None w j.callee slots y j.number deep memo b n kinds v (home.entry (a.children + 1) []) (home.own (a.children + 1) []) t (may_child s home) come refl)
        (next s)

    pub turn_stays : (k : ℕ) (ys : List PlainActivation) → StopsBy setting true iteration layer_then k b ys n → (s : PlainStrand) → HasRoomAbove s → IsAhead setting (topped Running a l s) (stacked (suc k) on_turn (b ∷ ys) n s)
    turn_stays k ys stop s home =
        let x = topped Running a l s in
        let y = record x { layer = m } in
        let w = Turns site (rest_of h) in
        let t = stacked (suc k) on_turn (b ∷ ys) n s in
        let u = with_child setting Call None w j.callee slots y in
        let same : t ≡ stacked k b ys n u = stacked_same k b ys n (record s { path = s.path ++ on_turn.children ∷ []; below = on_turn ∷ s.below }) u.top u.layer u.phase in
        enter_ahead setting j.number turn_entry Call None w j.callee slots x y t filled.0 (ap (λ (k : PlainLayer). record x { layer = k }) filled.1)
        (child_stays setting Call None w j.callee slots y j.number deep memo b n kinds k ys t (may_child s home) stop same)
        (next s)

-- ---- whatever instance of the loop calls it

module _ (setting : Setting) (site : Loop) (j : PlainLoop) (p : ℕ) (before : List Slot) (left i : ℕ) (u : PlainLayer) where
  -- the slots that the iteration of that number is entered with, and what was read for them
  abbrev pub numbered_entry : NumberedOut (List Slot)
  numbered_entry = entry_at setting.tables (slice_set before j.variable (Has (site.low +ℤ pos i))) (slots_of setting.codes j.callee) (map expression j.arguments)

  module _ (found : j ≡ loop_at setting.codes p site) (memo : memo_of setting.codes j.callee ≡ false) (deep : (left == 0) ≡ false)
      (slots : List Slot) (m n : PlainLayer) (b : PlainActivation) (filled : Fills numbered_entry slots u m) (kinds : n.kinds ≡ m.kinds) where
    abbrev begun_in : ℕ → PlainActivation
    begun_in k = made j.callee slots (Block (first_of 0)) (k - 1)

    abbrev entered_in : ℕ → PlainLayer
    entered_in k = entering j.callee (depth_limit - (k - 1)) m

    module _ (a : PlainActivation) (h : Share) (procedure : a.procedure ≡ p) (same : a.slots ≡ before) (levels : a.left ≡ left) (there : a.work ≡ Turns site h) (first : h.first ≡ i) (more : (h.count == 0) ≡ false) where
      found_here : j ≡ loop_at setting.codes a.procedure site
      found_here = found ∙ ap (λ f. loop_at setting.codes f site) (sym procedure)

      deep_here : (a.left == 0) ≡ false
      deep_here = subst (λ k. (k == 0) ≡ false) (sym levels) deep

      filled_here : Fills (turn_entry setting site h j a u) slots u m
      filled_here =
          subst (λ (xs : List Slot). Fills (entry_at setting.tables (slice_set xs j.variable (Has (site.low +ℤ pos h.first))) (slots_of setting.codes j.callee) (map expression j.arguments)) slots u m) (sym same)
          (subst (λ (f : ℕ). Fills (entry_at setting.tables (slice_set before j.variable (Has (site.low +ℤ pos f))) (slots_of setting.codes j.callee) (map expression j.arguments)) slots u m) (sym first) filled)

      goes_back : (v : ℤ) → ComesTo setting true (begun_in left) (entered_in left) (Some v) b n → TurnsOn setting a u (waiting false None (Turns site (rest_of h)) a) n
      goes_back v come =
          turn_back setting site h j a u there more found_here memo deep_here slots m n b filled_here kinds v (subst (λ (k : ℕ). ComesTo setting true (begun_in k) (entered_in k) (Some v) b n) (sym levels) come)

      stays_there : (o : ℕ) (ys : List PlainActivation) → StopsBy setting true (begun_in left) (entered_in left) o b ys n → (s : PlainStrand) → HasRoomAbove s
          → IsAhead setting (topped Running a u s) (stacked (suc o) (waiting false None (Turns site (rest_of h)) a) (b ∷ ys) n s)
      stays_there o ys stop =
          turn_stays setting site h j a u there more found_here memo deep_here slots m n b filled_here kinds o ys (subst (λ (k : ℕ). StopsBy setting true (begun_in k) (entered_in k) o b ys n) (sym levels) stop)

    pub is_turn : (v : ℤ) → ComesTo setting true (begun_in left) (entered_in left) (Some v) b n → IsTurn setting site p before left i u n
    is_turn v come a h procedure same levels there first more = goes_back a h procedure same levels there first more v come

    pub is_stay : (o : ℕ) (ys : List PlainActivation) → StopsBy setting true (begun_in left) (entered_in left) o b ys n → IsStay setting site p before left i u o (b ∷ ys) n
    is_stay o ys stop a h procedure same levels there first more = stays_there a h procedure same levels there first more o ys stop
