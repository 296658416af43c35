-- A half that is called, whose iterations are recorded one after another.
use Rattle.std.proofs.Common.{◌≡◌, ℕ, zero, suc, ◌+◌, ◌-◌, ◌/◌, ◌≤◌, pos, Bool, true, false, ◌∷◌, refl, sym, subst, arith}
use Rattle.positions.specs.declared.work.Loop.{Loop}
use Rattle.positions.specs.declared.work.Share.{Share}
use Rattle.positions.specs.declared.work.Work.TheVariants.{Turns}
use Rattle.positions.specs.declared.phase.Phase.TheVariants.{Running, Leaving}
use Rattle.positions.specs.Setting.{Setting}
use Rattle.positions.specs.Activations.{PlainActivation, at}
use Rattle.positions.specs.Strands.{PlainStrand}
use Rattle.positions.specs.Advance.{giving, left_of, right_of}
use Rattle.answered_loops.specs.Answered.{is_by_turns, halved_to, turned_to, ended_by, ended}
use Rattle.activations.specs.Turned.{behind, turned_by}
use Rattle.running_ahead.proofs.Turned.{turns_there}
use Rattle.running_ahead.specs.Chains.{reach, IsClear}
use Rattle.running_ahead.specs.Stepped.{IsStepped}
use Rattle.running_ahead.specs.Leaves.{Gathered, gathering, gathered, AreRecorded}
use Rattle.running_ahead.specs.RecordedHalves.{halves_gathered}
use Rattle.running_ahead.proofs.Paths.{loop_over, turned_next}
use Rattle.running_ahead.proofs.Halving.{turns_ahead}
use Rattle.running_ahead.proofs.Stepping.{steps_join, steps_ahead}
use Rattle.running_ahead.proofs.ChainedHalves.{clear_above, left_reaches, right_reaches, halves_sum, none_left, turned_same, grain_of, child_of_half, under_first, under_second, beside_first, beside_second, to_first, first_back, to_second, second_back, syncs, both_over, by_turns}
use Rattle.running_ahead.proofs.RecordedTurns.{AreRecordedAt, recorded_parted, clear_then, clear_amid, recorded_turns}

module _ (setting : Setting) (l : Loop) where
  -- ---- one by one

  one_by_one : (k : ℕ) (h : Share) (a : PlainActivation) (x y : Gathered) (s : PlainStrand) → IsClear (gathering x s) → AreRecorded setting l a.procedure a.slots a.left h.first x h.count y → is_by_turns setting.codes a l k h.count ≡ true
      → IsStepped setting (halves_gathered l k h a x s) (gathered (Leaving (pos 0)) (turned_to h.count l h a) y s)
  one_by_one k h a x y s clear those few =
      let start = halves_gathered l k h a x s in
      let b = at (Turns l h) a in
      let c = turned_by h.count l h b in
      let begun = gathered Running b x s in
      let done = gathered Running c y s in
      let over = giving (pos 0) done in
      let gone = gathered (Leaving (pos 0)) c y s in
      let all : h.count ≤ h.count = omega arith in
      let begins : IsStepped setting start begun = steps_ahead setting start begun (turns_ahead setting l k h start begun refl refl few refl) in
      let turned : IsStepped setting begun done = recorded_turns setting l h b x h.count y those refl all s (clear_amid x s clear) in
      let ends : IsStepped setting done over =
      steps_ahead setting done over (loop_over setting l (behind h.count h) done over (none_left h.count) refl (λ kit. turned_next setting kit l (behind h.count h) done refl (turns_there h.count l h b refl))) in
      let leaves : IsStepped setting over gone = steps_ahead setting over gone (syncs setting l done (clear_then setting l a.procedure a.slots a.left h.first x h.count y those s clear)) in
      subst (λ (z : PlainActivation). IsStepped setting start (gathered (Leaving (pos 0)) z y s)) (turned_same h.count l h a)
      (steps_join setting start begun gone begins (steps_join setting begun done gone turned (steps_join setting done over gone ends leaves)))

  -- ---- whole halves

  -- such halves are over once their iterations are recorded
  abbrev pub AreOver : ℕ → Type 0
  AreOver r = (k : ℕ) (h : Share) (a : PlainActivation) (x y : Gathered) (s : PlainStrand) → IsClear (gathering x s) → h.count ≤ reach r (grain_of setting l a) → AreRecorded setting l a.procedure a.slots a.left h.first x h.count y
      → IsStepped setting (halves_gathered l k h a x s) (gathered (Leaving (pos 0)) (ended setting.codes l k h a) y s)

  -- the first half is over
  module _ (r : ℕ) (again : AreOver r) (k : ℕ) (h : Share) (a : PlainActivation) (x : Gathered) (s : PlainStrand) (clear : IsClear (gathering x s)) (fits : h.count ≤ reach (suc r) (grain_of setting l a)) (halved : is_by_turns setting.codes a l (suc k) h.count ≡ false) where
    first_over : (y : Gathered) → AreRecorded setting l a.procedure a.slots a.left h.first x (h.count / 2) y → IsStepped setting (halves_gathered l (suc k) h a x s) (gathered Running (under_first setting l k h a) y s)
    first_over y those =
        let start = halves_gathered l (suc k) h a x s in
        let c = child_of_half setting l k (left_of h) a in
        let beside = beside_first setting l k h a s in
        let begun = gathered Running c x beside in
        let end = ended setting.codes l k (left_of h) c in
        let done = gathered (Leaving (pos 0)) end y beside in
        let back = gathered Running (under_first setting l k h a) y s in
        let half : IsStepped setting begun done =
        again k (left_of h) c x y beside (clear_above (a.children + 1) (gathering x s) (under_first setting l k h a ∷ s.below) clear) (left_reaches h.count (reach r (grain_of setting l a)) fits) those in
        steps_join setting start begun back (steps_ahead setting start begun (to_first setting l k h a x.layer (gathering x s) halved))
        (steps_join setting begun done back half (steps_ahead setting done back (first_back setting l k h a end y.layer (gathering y s))))

    -- and the second one begins
    pub second_begins : (y : Gathered) → AreRecorded setting l a.procedure a.slots a.left h.first x (h.count / 2) y
        → IsStepped setting (halves_gathered l (suc k) h a x s) (gathered Running (child_of_half setting l k (right_of h) a) y (beside_second setting l k h a s))
    second_begins y those =
        let under = gathered Running (under_first setting l k h a) y s in
        let second = gathered Running (child_of_half setting l k (right_of h) a) y (beside_second setting l k h a s) in
        steps_join setting (halves_gathered l (suc k) h a x s) under second (first_over y those) (steps_ahead setting under second (to_second setting l k h a y.layer (gathering y s)))

    both_done : (y : Gathered) → AreRecorded setting l a.procedure a.slots a.left h.first x h.count y → IsStepped setting (halves_gathered l (suc k) h a x s) (gathered (Leaving (pos 0)) (halved_to a) y s)
    both_done y those =
        let start = halves_gathered l (suc k) h a x s in
        let parts : AreRecordedAt setting l a.procedure a.slots a.left h.first x (h.count / 2) (h.count - h.count / 2) y =
        recorded_parted setting l a.procedure a.slots a.left h.first x (h.count / 2) (h.count - h.count / 2) h.count y (halves_sum h.count) those in
        let between = parts.between in
        let c = child_of_half setting l k (right_of h) a in
        let beside = beside_second setting l k h a s in
        let begun = gathered Running c between beside in
        let end = ended setting.codes l k (right_of h) c in
        let done = gathered (Leaving (pos 0)) end y beside in
        let after = gathered Running (under_second setting l k h a) y s in
        let over = gathered (Leaving (pos 0)) (halved_to a) y s in
        let clear_second : IsClear (gathering between s) = clear_then setting l a.procedure a.slots a.left h.first x (h.count / 2) between parts.first s clear in
        let clear_after : IsClear (gathering y s) = clear_then setting l a.procedure a.slots a.left h.first x h.count y those s clear in
        let half : IsStepped setting begun done =
        again k (right_of h) c between y beside (clear_above ((a.children + 1) + 1) (gathering between s) (under_second setting l k h a ∷ s.below) clear_second) (right_reaches h.count (reach r (grain_of setting l a)) fits) parts.second in
        steps_join setting start begun over (second_begins between parts.first)
        (steps_join setting begun done over half
        (steps_join setting done after over (steps_ahead setting done after (second_back setting l k h a end y.layer (gathering y s)))
        (steps_ahead setting after over (both_over setting l k h a y.layer (gathering y s) clear_after))))

  over_by : (b : Bool) (r : ℕ) → AreOver r → (k : ℕ) (h : Share) (a : PlainActivation) (x y : Gathered) (s : PlainStrand) → IsClear (gathering x s) → h.count ≤ reach (suc r) (grain_of setting l a)
      → AreRecorded setting l a.procedure a.slots a.left h.first x h.count y → is_by_turns setting.codes a l k h.count ≡ b → IsStepped setting (halves_gathered l k h a x s) (gathered (Leaving (pos 0)) (ended_by b l h a) y s)
  over_by true r again k h a x y s clear fits those few = one_by_one k h a x y s clear those few
  over_by false r again zero h a x y s clear fits those few = absurd (let wrong : true ≡ false = few in cc)
  over_by false r again (suc k) h a x y s clear fits those few = both_done r again k h a x s clear fits few y those

  pub all_recorded : (r : ℕ) → AreOver r
  all_recorded zero k h a x y s clear fits those =
      let few : is_by_turns setting.codes a l k h.count ≡ true = by_turns setting l k h a fits in
      subst (λ b. IsStepped setting (halves_gathered l k h a x s) (gathered (Leaving (pos 0)) (ended_by b l h a) y s)) (sym few) (one_by_one k h a x y s clear those few)
  all_recorded (suc r) k h a x y s clear fits those = over_by (is_by_turns setting.codes a l k h.count) r (all_recorded r) k h a x y s clear fits those refl
