-- A half of a loop whose iterations records answer.
use Rattle.std.proofs.Common.{◌≡◌, ℕ, zero, suc, ◌+◌, ◌-◌, ◌/◌, ◌≤◌, ◌==◌, ℤ, pos, ◌+ℤ◌, Bool, true, false, if◌then◌else◌, List, [], ◌∷◌, ◌++◌, length, take, drop, None, refl, sym, ap, ◌∙◌, subst, arith}
use Rattle.std.proofs.lemmas.List.{length-append, take-append-drop, length-drop}
use Rattle.std.proofs.Math.Seq.{length-take-le}
use Rattle.evaluation.specs.declared.slot.Slot.{Slot}
use Rattle.record_theory.specs.Record.{PlainRecord}
use Rattle.record_theory.specs.Sums.{arguments_of_last}
use Rattle.positions.specs.declared.work.Loop.{Loop}
use Rattle.positions.specs.declared.work.Share.{Share}
use Rattle.positions.specs.declared.work.Work.{Work}
use Rattle.positions.specs.declared.work.Work.TheVariants.{Over, Halves, Second, Turns}
use Rattle.positions.specs.declared.phase.Phase.TheVariants.{Running, Returning, Leaving}
use Rattle.positions.specs.Setting.{Setting}
use Rattle.positions.specs.Activations.{PlainActivation, at, waiting, made}
use Rattle.positions.specs.Code.{PlainLoop, loop_at}
use Rattle.positions.specs.Layers.{PlainLayer, absorbing}
use Rattle.positions.specs.Strands.{PlainStrand}
use Rattle.positions.specs.Advance.{in_phase, giving, with_top, split, left_of, right_of, turn_by, worked, closed, owns_top}
use Rattle.positions.specs.Moves.{inlined}
use Rattle.answered_loops.specs.Ways.{IsNext, IsWay, here, on, as_call}
use Rattle.answered_loops.specs.Answered.{IsOfMemo, IsAnswer, AreAnswers, iteration_depth, absorbed, answered_more, behind_turns, turned_to, halved_to, is_by_turns, ended_by, ended, HasAnswers, with_answers, with_work, half_answered, first_answered, turns_answered, IsInside}
use Rattle.answered_loops.proofs.Ways.{way_join}
use Rattle.answered_loops.proofs.Turns.{path_back, turns_way}

-- ---- lists of records

pub absorbed_append : (d : ℕ) (xs ys : List PlainRecord) (l : PlainLayer) → absorbed d (xs ++ ys) l ≡ absorbed d ys (absorbed d xs l)
absorbed_append d [] ys l = refl
absorbed_append d (x ∷ xs) ys l = absorbed_append d xs ys (absorbing x d l)

pub last_append : (vs : List ℤ) (xs ys : List PlainRecord) → arguments_of_last vs (xs ++ ys) ≡ arguments_of_last (arguments_of_last vs xs) ys
last_append vs [] ys = refl
last_append vs (x ∷ xs) ys = last_append x.arguments xs ys

-- what the first leave, and then the others, is what all leave
pub answers_append : (d : ℕ) (xs ys : List PlainRecord) (s : PlainStrand) → with_answers d ys (with_answers d xs s) ≡ with_answers d (xs ++ ys) s
answers_append d xs ys s =
    let sums : (s.tally.reused + length xs) + length ys ≡ s.tally.reused + (length xs + length ys) = omega arith in
    let layer = absorbed d ys (absorbed d xs s.layer) in
    ap (λ n. record s { layer = layer; arguments = arguments_of_last (arguments_of_last s.arguments xs) ys; tally = record s.tally { reused = n } }) (sums ∙ ap (λ n. s.tally.reused + n) (sym (length-append xs ys)))
    ∙ ap (λ m. record s { layer = m; arguments = arguments_of_last (arguments_of_last s.arguments xs) ys; tally = answered_more (length (xs ++ ys)) s.tally }) (sym (absorbed_append d xs ys s.layer))
    ∙ ap (λ vs. record s { layer = absorbed d (xs ++ ys) s.layer; arguments = vs; tally = answered_more (length (xs ++ ys)) s.tally }) (sym (last_append s.arguments xs ys))

module _ (setting : Setting) (j : PlainLoop) (slots : List Slot) (left : ℕ) (low : ℤ) where
  answers_take : (m i : ℕ) (rs : List PlainRecord) → AreAnswers setting j slots left low i rs → AreAnswers setting j slots left low i (take m rs)
  answers_take zero i rs h = tt
  answers_take (suc m) i [] h = tt
  answers_take (suc m) i (r ∷ rs) h = (h.0, answers_take m (i + 1) rs h.1)

  answers_drop : (m i : ℕ) (rs : List PlainRecord) → AreAnswers setting j slots left low i rs → AreAnswers setting j slots left low (i + m) (drop m rs)
  answers_drop zero i rs h = subst (λ n. AreAnswers setting j slots left low n rs) (let e : i ≡ i + 0 = omega arith in e) h
  answers_drop (suc m) i [] h = tt
  answers_drop (suc m) i (r ∷ rs) h = subst (λ n. AreAnswers setting j slots left low n (drop m rs)) (let e : (i + 1) + m ≡ i + suc m = omega arith in e) (answers_drop m (i + 1) rs h.1)

  -- those behind as many as there are
  pub answers_behind : (i n : ℕ) (xs ys : List PlainRecord) → n ≡ i + length xs → AreAnswers setting j slots left low i xs → AreAnswers setting j slots left low n ys → AreAnswers setting j slots left low i (xs ++ ys)
  answers_behind i n [] ys e h a = subst (λ m. AreAnswers setting j slots left low m ys) (let same : n ≡ i = omega arith in same) a
  answers_behind i n (x ∷ xs) ys e h a =
      let long : n ≡ (i + 1) + length xs = omega arith in
      (h.0, answers_behind (i + 1) n xs ys long h.1 a)

-- ---- one half

turned_work : (n : ℕ) (l : Loop) (h : Share) (a : PlainActivation) → (turned_to n l h a).work ≡ Turns l (behind_turns n h)
turned_work zero l h a =
    let first : h.first ≡ h.first + 0 = omega arith in
    let count : h.count ≡ h.count - 0 = omega arith in
    ap (λ f. Turns l (record { first = f; count = h.count })) first ∙ ap (λ c. Turns l (record { first = h.first + 0; count = c })) count
turned_work (suc n) l h a = refl

inside_longer : (s : PlainStrand) (x : ℕ) → IsInside s → (path : List ℕ) → length (s.path ++ x ∷ []) ≤ length path → length s.path ≤ length path
inside_longer s x h path long =
    let e : length (s.path ++ x ∷ []) ≡ length s.path + 1 = length-append s.path (x ∷ []) in
    omega arith

module _ (setting : Setting) (l : Loop) where
  -- the half's end, where its topmost instance has that left in the end
  abbrev pub leaves_with : ℕ → List PlainRecord → PlainActivation → PlainStrand → PlainStrand
  leaves_with d rs b s = record (with_answers d rs s) { top = b; phase = Leaving (pos 0) }

  -- such halves that may be halved so many times are answered
  abbrev pub IsAnswered : ℕ → Type 0
  IsAnswered k = (h : Share) (a : PlainActivation) (s : PlainStrand) (rs : List PlainRecord) → IsInside s → IsOfMemo setting (loop_at setting.codes a.procedure l) a.left → length rs ≡ h.count → AreAnswers setting (loop_at setting.codes a.procedure l) a.slots a.left l.low h.first rs
      → IsWay setting (with_work (Halves l k h) a s) (leaves_with (iteration_depth a) rs (ended setting.codes l k h a) s)

  -- the implicit sync
  syncs : (v : ℤ) (s : PlainStrand) → IsInside s → IsNext setting (in_phase (Returning v) s) (in_phase (Leaving v) s)
  syncs v s inside kit =
      let x = in_phase (Returning v) s in
      let both = inside s.path (omega arith) in
      sym (ap (λ c. if c then x else if owns_top x then closed setting v x else in_phase (Leaving v) x) both.0 ∙ ap (λ c. if c then closed setting v x else in_phase (Leaving v) x) both.1)

  -- one by one: the first ones are answered
  module _ (k : ℕ) (h : Share) (a : PlainActivation) (s : PlainStrand) (rs : List PlainRecord) (is : IsOfMemo setting (loop_at setting.codes a.procedure l) a.left) (fits : length rs ≤ h.count)
      (answers : AreAnswers setting (loop_at setting.codes a.procedure l) a.slots a.left l.low h.first rs) where
    abbrev turns_now : PlainStrand
    turns_now = with_work (Halves l k h) a s

    abbrev goes_by : Bool → PlainStrand
    goes_by b = (if b then with_top (at (Turns l h) turns_now.top) turns_now else split l (k - 1) h turns_now)

    turns_begin : is_by_turns setting.codes a l k h.count ≡ true → IsWay setting turns_now (record (with_answers (iteration_depth a) rs s) { top = turned_to (length rs) l h a; phase = Running })
    turns_begin e =
        let begin = with_work (Turns l h) a s in
        let to : IsNext setting turns_now begin = λ kit. sym (ap goes_by e) in
        way_join setting turns_now begin (record (with_answers (iteration_depth a) rs s) { top = turned_to (length rs) l h a; phase = Running }) (on turns_now begin here to) (turns_way setting l rs h a s is fits answers)

  -- all of them
  module _ (k : ℕ) (h : Share) (a : PlainActivation) (s : PlainStrand) (rs : List PlainRecord) (inside : IsInside s) (is : IsOfMemo setting (loop_at setting.codes a.procedure l) a.left) (all : length rs ≡ h.count)
      (answers : AreAnswers setting (loop_at setting.codes a.procedure l) a.slots a.left l.low h.first rs) where
    abbrev here_now : PlainStrand
    here_now = with_work (Halves l k h) a s

    abbrev d : ℕ
    d = iteration_depth a

    one_by_one : is_by_turns setting.codes a l k h.count ≡ true → IsWay setting here_now (leaves_with d rs (ended setting.codes l k h a) s)
    one_by_one e =
        let b = turned_to (length rs) l h a in
        let done = record (with_answers d rs s) { top = b; phase = Running } in
        let turns : IsWay setting here_now done = turns_begin k h a s rs is (let fits : length rs ≤ h.count = omega arith in fits) answers e in
        let none : h.count - length rs ≡ 0 = omega arith in
        let over : IsNext setting done (giving (pos 0) done) = λ kit. sym (ap (λ w. worked setting kit w done) (turned_work (length rs) l h a)
        ∙ ap (λ c. if c then giving (pos 0) done else turn_by setting kit (loop_at setting.codes b.procedure l) l (behind_turns (length rs) h) done) (ap (λ n. n == 0) none)) in
        let leaves : IsNext setting (giving (pos 0) done) (leaves_with d rs b s) = syncs (pos 0) done inside in
        let way : IsWay setting here_now (leaves_with d rs b s) =
        on (giving (pos 0) done) (leaves_with d rs b s) (on done (giving (pos 0) done) turns over) leaves in
        let same : b ≡ ended setting.codes l k h a = ap (λ n. turned_to n l h a) all ∙ sym (ap (λ c. ended_by c l h a) e) in
        subst (λ (x : PlainActivation). IsWay setting here_now (leaves_with d rs x s)) same way

  -- ---- halved once more

  abbrev child_of_half : ℕ → PlainActivation → Share → PlainActivation
  child_of_half k a j = made a.procedure a.slots (Halves l k j) a.left

  -- the instance under its first half
  abbrev under_first : ℕ → Share → PlainActivation → PlainActivation
  under_first k h a = waiting true None (Second l k (right_of h)) a

  -- the first half is answered: the second one is next
  module _ (k : ℕ) (again : IsAnswered k) (h : Share) (a : PlainActivation) (s : PlainStrand) (rs : List PlainRecord) (inside : IsInside s) (is : IsOfMemo setting (loop_at setting.codes a.procedure l) a.left) (half : length rs ≡ h.count / 2)
      (answers : AreAnswers setting (loop_at setting.codes a.procedure l) a.slots a.left l.low h.first rs) where
    abbrev both_now : PlainStrand
    both_now = with_work (Halves l (suc k) h) a s

    abbrev beside_first : PlainStrand
    beside_first = record s { path = s.path ++ (a.children + 1) ∷ []; below = under_first k h a ∷ s.below }

    abbrev spawned : PlainStrand
    spawned = split l k h both_now

    abbrev at_first : PlainStrand
    at_first = with_work (Halves l k (left_of h)) (child_of_half k a (left_of h)) beside_first

    abbrev first_leaves : PlainStrand
    first_leaves = leaves_with (iteration_depth a) rs (ended setting.codes l k (left_of h) (child_of_half k a (left_of h))) beside_first

    abbrev first_over : PlainStrand
    first_over = with_work (Second l k (right_of h)) (under_first k h a) (with_answers (iteration_depth a) rs s)

    spawns : is_by_turns setting.codes a l (suc k) h.count ≡ false → IsNext setting both_now spawned
    spawns e kit =
        let less : suc k - 1 ≡ k = omega arith in
        sym (ap (λ b. if b then with_top (at (Turns l h) both_now.top) both_now else split l (suc k - 1) h both_now) e ∙ ap (λ n. split l n h both_now) less)

    enters : IsNext setting (inlined spawned) at_first
    enters kit = refl

    first_back : IsNext setting first_leaves first_over
    first_back kit = ap (λ p. record first_over { path = p }) (sym (path_back s.path (a.children + 1)))

    first_way : IsWay setting at_first first_leaves
    first_way = again (left_of h) (child_of_half k a (left_of h)) beside_first rs (λ path long. inside path (inside_longer s (a.children + 1) inside path long)) is half answers

    first_by : is_by_turns setting.codes a l (suc k) h.count ≡ false → IsWay setting both_now first_over
    first_by e =
        let to_first : IsWay setting both_now at_first = on (inlined spawned) at_first (as_call spawned (inlined spawned) (on both_now spawned here (spawns e)) refl refl) enters in
        on first_leaves first_over (way_join setting both_now at_first first_leaves to_first first_way) first_back

  -- both are
  module _ (k : ℕ) (again : IsAnswered k) (h : Share) (a : PlainActivation) (s : PlainStrand) (rs : List PlainRecord) (inside : IsInside s) (is : IsOfMemo setting (loop_at setting.codes a.procedure l) a.left) (all : length rs ≡ h.count)
      (answers : AreAnswers setting (loop_at setting.codes a.procedure l) a.slots a.left l.low h.first rs) where
    abbrev whole_now : PlainStrand
    whole_now = with_work (Halves l (suc k) h) a s

    abbrev depth : ℕ
    depth = iteration_depth a

    abbrev xs : List PlainRecord
    xs = take (h.count / 2) rs

    abbrev ys : List PlainRecord
    ys = drop (h.count / 2) rs

    -- the instance under its second half
    abbrev under_second : PlainActivation
    under_second = waiting false None Over (record (under_first k h a) { slots = [] })

    abbrev first_done : PlainStrand
    first_done = with_answers depth xs s

    abbrev between : PlainStrand
    between = with_work (Second l k (right_of h)) (under_first k h a) first_done

    abbrev beside_second : PlainStrand
    beside_second = record first_done { path = s.path ++ ((a.children + 1) + 1) ∷ []; below = under_second ∷ s.below }

    abbrev both_done : PlainStrand
    both_done = with_answers depth ys first_done

    abbrev at_second : PlainStrand
    at_second = with_work (Halves l k (right_of h)) (child_of_half k a (right_of h)) beside_second

    abbrev second_leaves : PlainStrand
    second_leaves = leaves_with depth ys (ended setting.codes l k (right_of h) (child_of_half k a (right_of h))) beside_second

    abbrev behind : PlainStrand
    behind = with_work Over under_second both_done

    second_begins : IsNext setting between at_second
    second_begins kit = refl

    second_back : IsNext setting second_leaves behind
    second_back kit = ap (λ p. record behind { path = p }) (sym (path_back s.path ((a.children + 1) + 1)))

    gives : IsNext setting behind (giving (pos 0) behind)
    gives kit = refl

    to_between : is_by_turns setting.codes a l (suc k) h.count ≡ false → IsWay setting whole_now between
    to_between e =
        let half : length (take (h.count / 2) rs) ≡ h.count / 2 = length-take-le (h.count / 2) rs (let fits : h.count / 2 ≤ length rs = omega arith in fits) in
        first_by k again h a s xs inside is half (answers_take setting (loop_at setting.codes a.procedure l) a.slots a.left l.low (h.count / 2) h.first rs answers) e

    second_way : IsWay setting at_second second_leaves
    second_way =
        let half : length (drop (h.count / 2) rs) ≡ h.count - h.count / 2 = length-drop (h.count / 2) rs ∙ ap (λ n. n - h.count / 2) all in
        again (right_of h) (child_of_half k a (right_of h)) beside_second ys (λ path long. inside path (inside_longer s ((a.children + 1) + 1) inside path long)) is half (answers_drop setting (loop_at setting.codes a.procedure l) a.slots a.left l.low (h.count / 2) h.first rs answers)

    by_halves : is_by_turns setting.codes a l (suc k) h.count ≡ false → IsWay setting whole_now (leaves_with depth rs (ended setting.codes l (suc k) h a) s)
    by_halves e =
        let to_second : IsWay setting whole_now at_second = on between at_second (to_between e) second_begins in
        let end = leaves_with depth ys (halved_to a) first_done in
        let two : (a.children + 1) + 1 ≡ a.children + 2 = omega arith in
        let leaves : IsNext setting (giving (pos 0) behind) (leaves_with depth ys under_second first_done) = syncs (pos 0) behind inside in
        let way : IsWay setting whole_now (leaves_with depth ys under_second first_done) =
        on (giving (pos 0) behind) (leaves_with depth ys under_second first_done) (on behind (giving (pos 0) behind) (on second_leaves behind (way_join setting whole_now at_second second_leaves to_second second_way) second_back) gives) leaves in
        let top : under_second ≡ ended setting.codes l (suc k) h a = ap (λ n. record (halved_to a) { children = n }) two ∙ sym (ap (λ c. ended_by c l h a) e) in
        let state : both_done ≡ with_answers depth rs s = answers_append depth xs ys s ∙ ap (λ zs. with_answers depth zs s) (take-append-drop (h.count / 2) rs) in
        subst (λ (x : PlainActivation). IsWay setting whole_now (leaves_with depth rs x s)) top
        (subst (λ (x : PlainStrand). IsWay setting whole_now (record x { top = under_second; phase = Leaving (pos 0) })) state way)

  half_by : (b : Bool) (k : ℕ) → IsAnswered k → (h : Share) (a : PlainActivation) (s : PlainStrand) (rs : List PlainRecord) → IsInside s → IsOfMemo setting (loop_at setting.codes a.procedure l) a.left → length rs ≡ h.count
      → AreAnswers setting (loop_at setting.codes a.procedure l) a.slots a.left l.low h.first rs → is_by_turns setting.codes a l (suc k) h.count ≡ b
      → IsWay setting (with_work (Halves l (suc k) h) a s) (leaves_with (iteration_depth a) rs (ended setting.codes l (suc k) h a) s)
  half_by true k again h a s rs inside is all answers e = one_by_one (suc k) h a s rs inside is all answers e
  half_by false k again h a s rs inside is all answers e = by_halves k again h a s rs inside is all answers e

  pub half_way : (k : ℕ) → IsAnswered k
  half_way zero h a s rs inside is all answers = one_by_one zero h a s rs inside is all answers refl
  half_way (suc k) h a s rs inside is all answers = half_by (is_by_turns setting.codes a l (suc k) h.count) k (half_way k) h a s rs inside is all answers refl

-- ---- of a strand as it stands

module _ (setting : Setting) where
  is_with_work : (l : Loop) (w : Work) (s : PlainStrand) → s.phase ≡ Running → s.top.work ≡ w → with_work w s.top s ≡ s
  is_with_work l w s running there = ap (λ v. record s { top = at v s.top; phase = Running }) (sym there) ∙ ap (λ p. record s { phase = p }) (sym running)

  pub half_answers : (s : PlainStrand) (l : Loop) (k : ℕ) (h : Share) (rs : List PlainRecord) → s.phase ≡ Running → s.top.work ≡ Halves l k h → IsInside s → length rs ≡ h.count → HasAnswers setting l s.top h.first rs
      → IsWay setting s (half_answered setting.codes l k h rs s)
  half_answers s l k h rs running there inside all has =
      subst (λ (x : PlainStrand). IsWay setting x (half_answered setting.codes l k h rs s)) (is_with_work l (Halves l k h) s running there) (half_way setting l k h s.top s rs inside has.of_memo all has.answers)

  -- the first half alone
  first_with : (k : ℕ) (l : Loop) (h : Share) (s : PlainStrand) (rs : List PlainRecord) → is_by_turns setting.codes s.top l k h.count ≡ false → IsInside s → length rs ≡ h.count / 2 → HasAnswers setting l s.top h.first rs
      → IsWay setting (with_work (Halves l k h) s.top s) (first_answered l (k - 1) h rs s)
  first_with zero l h s rs halved inside half has = absurd (let wrong : true ≡ false = halved in cc)
  first_with (suc k) l h s rs halved inside half has =
      let less : k ≡ suc k - 1 = omega arith in
      subst (λ n. IsWay setting (with_work (Halves l (suc k) h) s.top s) (first_answered l n h rs s)) less
      (first_by setting l k (half_way setting l k) h s.top s rs inside has.of_memo half has.answers halved)

  pub first_answers : (s : PlainStrand) (l : Loop) (k : ℕ) (h : Share) (rs : List PlainRecord) → s.phase ≡ Running → s.top.work ≡ Halves l k h → is_by_turns setting.codes s.top l k h.count ≡ false → IsInside s → length rs ≡ h.count / 2
      → HasAnswers setting l s.top h.first rs → IsWay setting s (first_answered l (k - 1) h rs s)
  first_answers s l k h rs running there halved inside half has =
      subst (λ (x : PlainStrand). IsWay setting x (first_answered l (k - 1) h rs s)) (is_with_work l (Halves l k h) s running there) (first_with k l h s rs halved inside half has)

  -- those that are done one by one
  pub begun_answers : (s : PlainStrand) (l : Loop) (k : ℕ) (h : Share) (rs : List PlainRecord) → s.phase ≡ Running → s.top.work ≡ Halves l k h → is_by_turns setting.codes s.top l k h.count ≡ true → length rs ≤ h.count
      → HasAnswers setting l s.top h.first rs → IsWay setting s (turns_answered l h rs s)
  begun_answers s l k h rs running there turns fits has =
      subst (λ (x : PlainStrand). IsWay setting x (turns_answered l h rs s)) (is_with_work l (Halves l k h) s running there) (turns_begin setting l k h s.top s rs has.of_memo fits has.answers turns)

  pub turns_answer : (s : PlainStrand) (l : Loop) (h : Share) (rs : List PlainRecord) → s.phase ≡ Running → s.top.work ≡ Turns l h → length rs ≤ h.count → HasAnswers setting l s.top h.first rs
      → IsWay setting s (turns_answered l h rs s)
  turns_answer s l h rs running there fits has =
      subst (λ (x : PlainStrand). IsWay setting x (turns_answered l h rs s)) (is_with_work l (Turns l h) s running there) (turns_way setting l rs h s.top s has.of_memo fits has.answers)
