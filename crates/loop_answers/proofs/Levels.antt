-- Down through the halves of a loop: the ways, and what is known at each half.
use Rattle.std.proofs.Common.{◌≡◌, ℕ, zero, suc, ◌+◌, ◌-◌, ◌/◌, ◌≤◌, Bool, true, false, if◌then◌else◌, List, [], ◌∷◌, ◌++◌, length, take, drop, Result, Ok, Err, OnOk, OnErr, refl, sym, ap, ◌∙◌, subst, arith}
use Rattle.std.proofs.lemmas.List.{length-append}
use Rattle.std.proofs.Math.Seq.{drop-nil}
use Rattle.rerun_records.specs.declared.batch.Batch.{Batch}
use Rattle.positions.specs.declared.work.Loop.{Loop}
use Rattle.positions.specs.declared.work.Share.{Share}
use Rattle.positions.specs.declared.work.Work.TheVariants.{Halves, Turns}
use Rattle.positions.specs.declared.phase.Phase.TheVariants.{Running}
use Rattle.positions.specs.Setting.{Setting}
use Rattle.positions.specs.Activations.{ShareFits, at}
use Rattle.positions.specs.Code.{loop_at}
use Rattle.positions.specs.Strands.{PlainStrand}
use Rattle.positions.specs.Advance.{advanced, advanced_at, worked, halved, split, with_top, left_of, right_of}
use Rattle.positions.specs.Moves.{inlined}
use Rattle.answered_loops.specs.Ways.{IsNext, IsWay, here, on, as_call}
use Rattle.answered_loops.specs.Answered.{absorbed, iteration_depth, IsInside, is_by_turns}
use Rattle.answered_loops.proofs.Ways.{way_join}
use Rattle.loop_answers.specs.Ahead.{IsAnsweredAhead, IsRefusedAhead}
use Rattle.loop_answers.specs.Batches.{sums_of, instances_in, AreBatches, HasBatches, first_left}
use Rattle.loop_answers.specs.Levels.{IsAtHalf, left_entered, right_entered}
use Rattle.loop_answers.proofs.Batches.{absorbed_keeps, has_rest}
use Rattle.loop_answers.proofs.Replays.{answered_same}

inside_longer : (s : PlainStrand) (x : ℕ) (path : List ℕ) → length (s.path ++ x ∷ []) ≤ length path → length s.path ≤ length path
inside_longer s x path long =
    let e : length (s.path ++ x ∷ []) ≡ length s.path + 1 = length-append s.path (x ∷ []) in
    omega arith

drop_drop : {A : Type 0} (m n : ℕ) (xs : List A) → drop n (drop m xs) ≡ drop (m + n) xs
drop_drop zero n xs = ap (λ k. drop k xs) (let same : n ≡ zero + n = omega arith in same)
drop_drop (suc m) n [] = drop-nil n ∙ sym (drop-nil (suc m + n))
drop_drop (suc m) n (x ∷ xs) = drop_drop m n xs ∙ ap (λ k. drop k (x ∷ xs)) (let same : suc (m + n) ≡ suc m + n = omega arith in same)

module _ (setting : Setting) where
  -- more steps behind others
  pub ahead_join : (s t u : PlainStrand) → IsAnsweredAhead setting s t → IsAnsweredAhead setting t u → IsAnsweredAhead setting s u
  ahead_join s t u p q = record {
    way = way_join setting s t u p.way q.way;
    lower = q.lower ∙ p.lower;
    kinds = q.kinds ∙ p.kinds;
    made = q.made ∙ p.made;
  }

  -- memory was refused behind others
  pub refused_join : (s t u : PlainStrand) → IsAnsweredAhead setting s t → IsRefusedAhead setting t u → IsRefusedAhead setting s u
  refused_join s t u p q = record { between = q.between; ahead = ahead_join s t q.between p q.ahead; same = q.same }

  module _ (l : Loop) (k : ℕ) (h : Share) (s : PlainStrand) (running : s.phase ≡ Running) (there : s.top.work ≡ Halves l k h) where
    works : (kit : Bool) → advanced setting kit s ≡ halved setting.codes l k h s
    works kit = ap (λ ph. advanced_at setting kit ph s) running ∙ ap (λ w. worked setting kit w s) there

    abbrev halved_by : Bool → PlainStrand
    halved_by b = (if b then with_top (at (Turns l h) s.top) s else split l (k - 1) h s)

    halved_next : (b : Bool) → is_by_turns setting.codes s.top l k h.count ≡ b → IsNext setting s (halved_by b)
    halved_next b e kit = sym (works kit ∙ ap halved_by e)

    -- its iterations are done one by one
    turns_ahead : (t : PlainStrand) → is_by_turns setting.codes s.top l k h.count ≡ true → t ≡ halved setting.codes l k h s → IsAnsweredAhead setting s t
    turns_ahead t e is =
        let begun = with_top (at (Turns l h) s.top) s in
        let same : t ≡ begun = is ∙ ap halved_by e in
        subst (IsAnsweredAhead setting s) (sym same) (record { way = on s begun here (halved_next true e); lower = refl; kinds = refl; made = refl })

    pub turns_over : {A E : Type 0} (r : Result A E) (t : PlainStrand) → is_by_turns setting.codes s.top l k h.count ≡ true → OnOk r (t ≡ halved setting.codes l k h s) → OnErr r (t ≡ s) → IsAnsweredAhead setting s t
    turns_over (Ok a) t e done same = turns_ahead t e done
    turns_over (Err x) t e done same = answered_same setting s t same

    -- its first half is called
    left_is : (t : PlainStrand) → is_by_turns setting.codes s.top l k h.count ≡ false → t ≡ record (halved setting.codes l k h s) { phase = Running } → t ≡ left_entered l k h s
    left_is t e is = is ∙ ap (λ b. record (halved_by b) { phase = Running }) e

    pub left_ahead : (t : PlainStrand) → is_by_turns setting.codes s.top l k h.count ≡ false → t ≡ record (halved setting.codes l k h s) { phase = Running } → IsAnsweredAhead setting s t
    left_ahead t e is =
        let spawned = split l (k - 1) h s in
        let first = left_entered l k h s in
        let way : IsWay setting s first = on (inlined spawned) first (as_call spawned (inlined spawned) (on s spawned here (halved_next false e)) refl refl) (λ kit. refl) in
        subst (IsAnsweredAhead setting s) (sym (left_is t e is)) (record { way = way; lower = refl; kinds = refl; made = refl })

    -- its first half is over, and its second one called
    pub right_ahead : (t : PlainStrand) (bs : List Batch) → IsAnsweredAhead setting s (first_left l (k - 1) h bs s) → t ≡ right_entered l k h bs s → IsAnsweredAhead setting s t
    right_ahead t bs ahead is =
        let first = first_left l (k - 1) h bs s in
        let second = right_entered l k h bs s in
        let way : IsWay setting s second = on first second ahead.way (λ kit. refl) in
        subst (IsAnsweredAhead setting s) (sym is) (record { way = way; lower = ahead.lower; kinds = ahead.kinds; made = ahead.made })

  module _ (l : Loop) (k : ℕ) (h : Share) (bs : List Batch) (s : PlainStrand) (is : IsAtHalf setting l k h bs s) where
    pub left_there : (t : PlainStrand) (j : Share) → j ≡ left_of h → ShareFits l j → is_by_turns setting.codes s.top l k h.count ≡ false → t ≡ record (halved setting.codes l k h s) { phase = Running } → IsAtHalf setting l (k - 1) j bs t
    left_there t j half fits e same =
        let inside : IsInside (left_entered l k h s) = λ path long. is.inside path (inside_longer s (s.top.children + 1) path long) in
        subst (IsAtHalf setting l (k - 1) j bs) (sym (left_is l k h s is.running is.work t e same))
        (subst (λ (i : Share). IsAtHalf setting l (k - 1) i bs (left_entered l k h s)) (sym half)
        (record { running = refl; work = refl; fits = subst (ShareFits l) half fits; inside = inside; answers = record { of_memo = is.answers.of_memo; batches = is.answers.batches } }))

    pub right_there : (t : PlainStrand) (n : ℕ) → ShareFits l (right_of h) → instances_in (take n bs) ≡ h.count / 2 → t ≡ right_entered l k h (take n bs) s → IsAtHalf setting l (k - 1) (right_of h) (drop n bs) t
    right_there t n fits half same =
        let inside : IsInside (right_entered l k h (take n bs) s) = λ path long. is.inside path (inside_longer s ((s.top.children + 1) + 1) path long) in
        let rest : HasBatches setting s.layer.keeps l s.top (h.first + h.count / 2) (drop n bs) = has_rest setting s.layer.keeps l s.top h.first n (h.count / 2) bs half is.answers in
        let still : AreBatches setting (absorbed (iteration_depth s.top) (sums_of (take n bs)) s.layer).keeps (loop_at setting.codes s.top.procedure l) s.top.slots s.top.left l.low (h.first + h.count / 2) (drop n bs) =
        subst (λ (b : Bool). AreBatches setting b (loop_at setting.codes s.top.procedure l) s.top.slots s.top.left l.low (h.first + h.count / 2) (drop n bs)) (sym (absorbed_keeps (iteration_depth s.top) (sums_of (take n bs)) s.layer)) rest.batches in
        subst (IsAtHalf setting l (k - 1) (right_of h) (drop n bs)) (sym same)
        (record { running = refl; work = refl; fits = fits; inside = inside; answers = record { of_memo = rest.of_memo; batches = still } })

  -- all but the first n of what is left behind m of them
  pub passed : (l : Loop) (k : ℕ) (h : Share) (all bs : List Batch) (m n : ℕ) (s : PlainStrand) → bs ≡ drop m all → IsAtHalf setting l k h (drop n bs) s → IsAtHalf setting l k h (drop (m + n) all) s
  passed l k h all bs m n s e at = subst (λ (cs : List Batch). IsAtHalf setting l k h cs s) (ap (drop n) e ∙ drop_drop m n all) at
