-- A half that is called, whose iterations go back to it one after another.
use Rattle.std.proofs.Common.{◌≡◌, ℕ, zero, suc, ◌+◌, ◌-◌, ◌/◌, ◌==◌, ◌≤◌, pos, Bool, true, false, List, [], ◌∷◌, ◌++◌, length, None, refl, sym, ap, subst, arith}
use Rattle.std.proofs.lemmas.Bool.Decides.{nat_tests}
use Rattle.std.proofs.lemmas.List.{length-append}
use Rattle.positions.specs.declared.work.Loop.{Loop}
use Rattle.positions.specs.declared.work.Share.{Share}
use Rattle.positions.specs.declared.work.Work.TheVariants.{Over, Halves, Second, Turns}
use Rattle.positions.specs.declared.phase.Phase.TheVariants.{Running, Returning, Leaving}
use Rattle.positions.specs.Setting.{Setting}
use Rattle.positions.specs.Activations.{PlainActivation, at, waiting, made}
use Rattle.positions.specs.Code.{loop_at}
use Rattle.positions.specs.Layers.{PlainLayer}
use Rattle.positions.specs.Strands.{PlainStrand}
use Rattle.positions.specs.Advance.{in_phase, giving, split, left_of, right_of}
use Rattle.answered_loops.specs.Ways.{IsNext, here, on}
use Rattle.answered_loops.specs.Answered.{is_by_turns, turned_to, halved_to, ended_by, ended}
use Rattle.activations.specs.Turned.{behind, turned_by}
use Rattle.own_statements.specs.Paths.{HasRoomAbove, topped}
use Rattle.running_ahead.proofs.Turned.{turns_there}
use Rattle.running_ahead.specs.Ahead.{IsAhead}
use Rattle.running_ahead.specs.Chains.{AreTurns, reach, IsClear, halves_now}
use Rattle.running_ahead.proofs.Paths.{ahead_join, leave_ahead, sync_ahead, loop_over, turned_next}
use Rattle.running_ahead.proofs.Halving.{turns_ahead, first_ahead, second_ahead}
use Rattle.running_ahead.proofs.ChainedTurns.{ArePartedAt, parted, chained_turns}
use Rattle.small_steps.proofs.Refusals.{path_back}

-- ---- levels

pub clear_home : (s : PlainStrand) → IsClear s → HasRoomAbove s
clear_home s clear =
    record {
      entry = λ n ns. (let e : length (s.path ++ n ∷ ns) ≡ length s.path + length (n ∷ ns) = length-append s.path (n ∷ ns) in clear (s.path ++ n ∷ ns) (omega (arith, e))).0;
      own = λ n ns. (let e : length (s.path ++ n ∷ ns) ≡ length s.path + length (n ∷ ns) = length-append s.path (n ∷ ns) in clear (s.path ++ n ∷ ns) (omega (arith, e))).1;
    }

pub clear_above : (x : ℕ) (s : PlainStrand) (below : List PlainActivation) → IsClear s → IsClear (record s { path = s.path ++ x ∷ []; below = below })
clear_above x s below clear path long =
    let e : length (s.path ++ x ∷ []) ≡ length s.path + 1 = length-append s.path (x ∷ []) in
    clear path (omega (arith, e, long))

-- ---- shares

pub left_reaches : (c g : ℕ) → c ≤ g + g → c / 2 ≤ g
left_reaches c g fits = omega (arith, fits)

pub right_reaches : (c g : ℕ) → c ≤ g + g → c - c / 2 ≤ g
right_reaches c g fits = omega (arith, fits)

pub halves_sum : (c : ℕ) → c ≡ c / 2 + (c - c / 2)
halves_sum c = omega arith

pub none_left : (c : ℕ) → (c - c == 0) ≡ true
none_left c =
    let none : c - c ≡ 0 = omega arith in
    ap (λ n. n == 0) none

pub turned_same : (n : ℕ) (l : Loop) (h : Share) (a : PlainActivation) → turned_by n l h (at (Turns l h) a) ≡ turned_to n l h a
turned_same zero l h a = refl
turned_same (suc n) l h a = refl

module _ (setting : Setting) (l : Loop) where
  abbrev pub grain_of : PlainActivation → ℕ
  grain_of a = (loop_at setting.codes a.procedure l).grain

  -- ---- the pieces of a half

  abbrev pub child_of_half : ℕ → Share → PlainActivation → PlainActivation
  child_of_half k j a = made a.procedure a.slots (Halves l k j) a.left

  -- the instance under its first half
  abbrev pub under_first : ℕ → Share → PlainActivation → PlainActivation
  under_first k h a = waiting true None (Second l k (right_of h)) a

  -- under the second one
  abbrev pub under_second : ℕ → Share → PlainActivation → PlainActivation
  under_second k h a = waiting false None Over (record (under_first k h a) { slots = [] })

  abbrev pub beside_first : ℕ → Share → PlainActivation → PlainStrand → PlainStrand
  beside_first k h a s = record s { path = s.path ++ (a.children + 1) ∷ []; below = under_first k h a ∷ s.below }

  abbrev pub beside_second : ℕ → Share → PlainActivation → PlainStrand → PlainStrand
  beside_second k h a s = record s { path = s.path ++ ((a.children + 1) + 1) ∷ []; below = under_second k h a ∷ s.below }

  pub to_first : (k : ℕ) (h : Share) (a : PlainActivation) (u : PlainLayer) (s : PlainStrand) → is_by_turns setting.codes a l (suc k) h.count ≡ false
      → IsAhead setting (halves_now l (suc k) h a u s) (topped Running (child_of_half k (left_of h) a) u (beside_first k h a s))
  to_first k h a u s more =
      let x = halves_now l (suc k) h a u s in
      let less : k ≡ suc k - 1 = omega arith in
      first_ahead setting l (suc k) h x (topped Running (child_of_half k (left_of h) a) u (beside_first k h a s)) refl refl more (ap (λ n. in_phase Running (split l n h x)) less)

  pub first_back : (k : ℕ) (h : Share) (a b : PlainActivation) (v : PlainLayer) (s : PlainStrand) → IsAhead setting (topped (Leaving (pos 0)) b v (beside_first k h a s)) (topped Running (under_first k h a) v s)
  first_back k h a b v s =
      let t = topped Running (under_first k h a) v s in
      leave_ahead setting (pos 0) (topped (Leaving (pos 0)) b v (beside_first k h a s)) t refl (ap (λ p. record t { path = p }) (sym (path_back s.path (a.children + 1))))

  pub to_second : (k : ℕ) (h : Share) (a : PlainActivation) (v : PlainLayer) (s : PlainStrand)
      → IsAhead setting (topped Running (under_first k h a) v s) (topped Running (child_of_half k (right_of h) a) v (beside_second k h a s))
  to_second k h a v s = second_ahead setting l k (right_of h) (topped Running (under_first k h a) v s) (topped Running (child_of_half k (right_of h) a) v (beside_second k h a s)) refl refl refl

  pub second_back : (k : ℕ) (h : Share) (a b : PlainActivation) (v : PlainLayer) (s : PlainStrand) → IsAhead setting (topped (Leaving (pos 0)) b v (beside_second k h a s)) (topped Running (under_second k h a) v s)
  second_back k h a b v s =
      let t = topped Running (under_second k h a) v s in
      leave_ahead setting (pos 0) (topped (Leaving (pos 0)) b v (beside_second k h a s)) t refl (ap (λ p. record t { path = p }) (sym (path_back s.path ((a.children + 1) + 1))))

  -- the implicit sync
  pub syncs : (s : PlainStrand) → IsClear s → IsAhead setting (in_phase (Returning (pos 0)) s) (in_phase (Leaving (pos 0)) s)
  syncs s clear =
      let both = clear s.path (omega arith) in
      sync_ahead setting (pos 0) (in_phase (Returning (pos 0)) s) refl both.0 both.1

  -- both halves are over
  pub both_over : (k : ℕ) (h : Share) (a : PlainActivation) (v : PlainLayer) (s : PlainStrand) → IsClear s → IsAhead setting (topped Running (under_second k h a) v s) (topped (Leaving (pos 0)) (halved_to a) v s)
  both_over k h a v s clear =
      let x = topped Running (under_second k h a) v s in
      let gives : IsNext setting x (giving (pos 0) x) = λ kit. refl in
      let gone : IsAhead setting x (giving (pos 0) x) = record { way = on x (giving (pos 0) x) here gives; lower = refl; kinds = refl; tally = refl } in
      let two : (a.children + 1) + 1 ≡ a.children + 2 = omega arith in
      subst (λ n. IsAhead setting x (topped (Leaving (pos 0)) (record (halved_to a) { children = n }) v s)) two
      (ahead_join setting x (giving (pos 0) x) (in_phase (Leaving (pos 0)) x) gone (syncs x clear))

  -- ---- one by one

  one_by_one : (k : ℕ) (h : Share) (a : PlainActivation) (u v : PlainLayer) (s : PlainStrand) → IsClear s → AreTurns setting l a.procedure a.slots a.left h.first u h.count v → is_by_turns setting.codes a l k h.count ≡ true
      → IsAhead setting (halves_now l k h a u s) (topped (Leaving (pos 0)) (turned_to h.count l h a) v s)
  one_by_one k h a u v s clear turns few =
      let x = halves_now l k h a u s in
      let b = at (Turns l h) a in
      let begun = topped Running b u s in
      let done = topped Running (turned_by h.count l h b) v s in
      let all : h.count ≤ h.count = omega arith in
      let begins : IsAhead setting x begun = turns_ahead setting l k h x begun refl refl few refl in
      let turned : IsAhead setting begun done = chained_turns setting l h b u h.count v turns refl all s (clear_home s clear) in
      let over : IsAhead setting done (giving (pos 0) done) =
      loop_over setting l (behind h.count h) done (giving (pos 0) done) (none_left h.count) refl (λ kit. turned_next setting kit l (behind h.count h) done refl (turns_there h.count l h b refl)) in
      let leaves : IsAhead setting (giving (pos 0) done) (in_phase (Leaving (pos 0)) done) = syncs done clear in
      subst (λ (z : PlainActivation). IsAhead setting x (topped (Leaving (pos 0)) z v s)) (turned_same h.count l h a)
      (ahead_join setting x begun (in_phase (Leaving (pos 0)) done) begins (ahead_join setting begun done (in_phase (Leaving (pos 0)) done) turned (ahead_join setting done (giving (pos 0) done) (in_phase (Leaving (pos 0)) done) over leaves)))

  -- ---- whole halves

  -- such halves are over once their iterations are
  abbrev pub AreOver : ℕ → Type 0
  AreOver r = (k : ℕ) (h : Share) (a : PlainActivation) (u v : PlainLayer) (s : PlainStrand) → IsClear s → h.count ≤ reach r (grain_of a) → AreTurns setting l a.procedure a.slots a.left h.first u h.count v
      → IsAhead setting (halves_now l k h a u s) (topped (Leaving (pos 0)) (ended setting.codes l k h a) v s)

  -- the first half is over
  module _ (r : ℕ) (again : AreOver r) (k : ℕ) (h : Share) (a : PlainActivation) (u : PlainLayer) (s : PlainStrand) (clear : IsClear s) (fits : h.count ≤ reach (suc r) (grain_of a)) (halved : is_by_turns setting.codes a l (suc k) h.count ≡ false) where
    first_over : (v : PlainLayer) → AreTurns setting l a.procedure a.slots a.left h.first u (h.count / 2) v → IsAhead setting (halves_now l (suc k) h a u s) (topped Running (under_first k h a) v s)
    first_over v turns =
        let x = halves_now l (suc k) h a u s in
        let c = child_of_half k (left_of h) a in
        let beside = beside_first k h a s in
        let begun = topped Running c u beside in
        let end = ended setting.codes l k (left_of h) c in
        let done = topped (Leaving (pos 0)) end v beside in
        let half : IsAhead setting begun done = again k (left_of h) c u v beside (clear_above (a.children + 1) s (under_first k h a ∷ s.below) clear) (left_reaches h.count (reach r (grain_of a)) fits) turns in
        ahead_join setting x begun (topped Running (under_first k h a) v s) (to_first k h a u s halved) (ahead_join setting begun done (topped Running (under_first k h a) v s) half (first_back k h a end v s))

    -- and the second one begins
    pub second_begun : (v : PlainLayer) → AreTurns setting l a.procedure a.slots a.left h.first u (h.count / 2) v → IsAhead setting (halves_now l (suc k) h a u s) (topped Running (child_of_half k (right_of h) a) v (beside_second k h a s))
    second_begun v turns =
        ahead_join setting (halves_now l (suc k) h a u s) (topped Running (under_first k h a) v s) (topped Running (child_of_half k (right_of h) a) v (beside_second k h a s)) (first_over v turns) (to_second k h a v s)

    both_done : (v : PlainLayer) → AreTurns setting l a.procedure a.slots a.left h.first u h.count v → IsAhead setting (halves_now l (suc k) h a u s) (topped (Leaving (pos 0)) (halved_to a) v s)
    both_done v turns =
        let x = halves_now l (suc k) h a u s in
        let those : ArePartedAt setting l a.procedure a.slots a.left h.first u (h.count / 2) (h.count - h.count / 2) v = parted setting l a.procedure a.slots a.left h.first u (h.count / 2) (h.count - h.count / 2) h.count v (halves_sum h.count) turns in
        let c = child_of_half k (right_of h) a in
        let beside = beside_second k h a s in
        let begun = topped Running c those.between beside in
        let end = ended setting.codes l k (right_of h) c in
        let done = topped (Leaving (pos 0)) end v beside in
        let after = topped Running (under_second k h a) v s in
        let over = topped (Leaving (pos 0)) (halved_to a) v s in
        let half : IsAhead setting begun done = again k (right_of h) c those.between v beside (clear_above ((a.children + 1) + 1) s (under_second k h a ∷ s.below) clear) (right_reaches h.count (reach r (grain_of a)) fits) those.second in
        ahead_join setting x begun over (second_begun those.between those.first) (ahead_join setting begun done over half (ahead_join setting done after over (second_back k h a end v s) (both_over k h a v s clear)))

  pub by_turns : (k : ℕ) (h : Share) (a : PlainActivation) → h.count ≤ grain_of a → is_by_turns setting.codes a l k h.count ≡ true
  by_turns zero h a fits = refl
  by_turns (suc k) h a fits = grind (arith, nat_tests, fits)

  over_by : (b : Bool) (r : ℕ) → AreOver r → (k : ℕ) (h : Share) (a : PlainActivation) (u v : PlainLayer) (s : PlainStrand) → IsClear s → h.count ≤ reach (suc r) (grain_of a)
      → AreTurns setting l a.procedure a.slots a.left h.first u h.count v → is_by_turns setting.codes a l k h.count ≡ b → IsAhead setting (halves_now l k h a u s) (topped (Leaving (pos 0)) (ended_by b l h a) v s)
  over_by true r again k h a u v s clear fits turns few = one_by_one k h a u v s clear turns few
  over_by false r again zero h a u v s clear fits turns few = absurd (let wrong : true ≡ false = few in cc)
  over_by false r again (suc k) h a u v s clear fits turns few = both_done r again k h a u s clear fits few v turns

  pub all_over : (r : ℕ) → AreOver r
  all_over zero k h a u v s clear fits turns =
      let few : is_by_turns setting.codes a l k h.count ≡ true = by_turns k h a fits in
      subst (λ b. IsAhead setting (halves_now l k h a u s) (topped (Leaving (pos 0)) (ended_by b l h a) v s)) (sym few) (one_by_one k h a u v s clear turns few)
  all_over (suc r) k h a u v s clear fits turns = over_by (is_by_turns setting.codes a l k h.count) r (all_over r) k h a u v s clear fits turns refl
