-- Iterations one by one that records answer.
use Rattle.std.proofs.Common.{◌≡◌, ℕ, zero, suc, ◌+◌, ◌-◌, ◌≤◌, ◌==◌, pos, ◌+ℤ◌, Bool, true, false, if◌then◌else◌, List, [], ◌∷◌, ◌++◌, map, length, take, None, refl, sym, ap, ◌∙◌, subst, arith}
use Rattle.std.proofs.Math.Seq.{take-append_seam}
use Rattle.std.proofs.Math.Dec.{eqb-suc-zero}
use Rattle.std.proofs.lemmas.List.{length-append, append-nil}
use Rattle.meaning.specs.declared.tree.Way.TheVariants.{Call}
use Rattle.meaning.specs.declared.FaultKind.TheVariants.{TooDeep}
use Rattle.linked_program.specs.Linked.{Linked}
use Rattle.linked_program.specs.CodeView.{expression, slots_of}
use Rattle.evaluation.specs.declared.note.Note.{Note}
use Rattle.evaluation.specs.Slots.{slots_for}
use Rattle.record_theory.specs.Record.{PlainRecord}
use Rattle.positions.specs.declared.work.Loop.{Loop}
use Rattle.positions.specs.declared.work.Share.{Share}
use Rattle.positions.specs.declared.work.Work.{Work}
use Rattle.positions.specs.declared.work.Work.TheVariants.{Turns}
use Rattle.positions.specs.declared.phase.Phase.TheVariants.{Entering, Running}
use Rattle.positions.specs.Setting.{Setting}
use Rattle.positions.specs.Activations.{PlainActivation, at, waiting}
use Rattle.positions.specs.Code.{PlainLoop, loop_at}
use Rattle.positions.specs.Layers.{PlainLayer, kept_behind, noting, absorbing}
use Rattle.positions.specs.Tallies.{answering}
use Rattle.positions.specs.Strands.{PlainStrand, shorter}
use Rattle.positions.specs.Advance.{faulted, evaluated, recalled, started_as, pushed, child_of, with_arguments, entered, nested_memo, called_as, giving, turn_slots, turn_by, rest_of, reused}
use Rattle.answered_loops.specs.Ways.{IsNext, IsWay, here, on}
use Rattle.answered_loops.specs.Answered.{IsOfMemo, IsAnswer, AreAnswers, iteration_depth, turned_to, with_answers, with_work}
use Rattle.answered_loops.proofs.Ways.{way_join}

pub path_back : (xs : List ℕ) (x : ℕ) → shorter (xs ++ x ∷ []) ≡ xs
path_back xs x =
    let e : length (xs ++ x ∷ []) ≡ length xs + 1 = length-append xs (x ∷ []) in
    let f : length (xs ++ x ∷ []) - 1 ≡ length xs = omega arith in
    ap (λ n. take n (xs ++ x ∷ [])) f ∙ take-append_seam xs (x ∷ [])

none_behind : (keeps : Bool) (ns : List Note) → kept_behind keeps ns [] ≡ ns
none_behind true ns = append-nil ns
none_behind false ns = refl

noting_none : (l : PlainLayer) → noting [] l ≡ l
noting_none l = ap (λ ns. record l { notes = ns }) (none_behind l.keeps l.notes)

not_none : (n m : ℕ) → suc m ≤ n → (n == 0) ≡ false
not_none zero m h = absurd (let none : ⊥ = omega arith in none)
not_none (suc n) m h = eqb-suc-zero n

-- one turn, and then so many more
turned_more : (n : ℕ) (l : Loop) (h : Share) (a : PlainActivation) → turned_to n l (rest_of h) (waiting false None (Turns l (rest_of h)) a) ≡ turned_to (suc n) l h a
turned_more zero l h a = refl
turned_more (suc n) l h a =
    let children : (a.children + 1) + suc n ≡ a.children + suc (suc n) = omega arith in
    let first : (h.first + 1) + suc n ≡ h.first + suc (suc n) = omega arith in
    let count : (h.count - 1) - suc n ≡ h.count - suc (suc n) = omega arith in
    ap (λ c. record a { children = c; spawned = false; into = None; work = Turns l (record { first = (h.first + 1) + suc n; count = (h.count - 1) - suc n }) }) children
    ∙ ap (λ f. record a { children = a.children + suc (suc n); spawned = false; into = None; work = Turns l (record { first = f; count = (h.count - 1) - suc n }) }) first
    ∙ ap (λ c. record a { children = a.children + suc (suc n); spawned = false; into = None; work = Turns l (record { first = h.first + suc (suc n); count = c }) }) count

-- what one record leaves of a strand
abbrev pub with_answer : ℕ → PlainRecord → PlainStrand → PlainStrand
with_answer d r s = record s { layer = absorbing r d s.layer; arguments = r.arguments; tally = answering s.tally }

module _ (setting : Setting) (l : Loop) where
  -- one iteration
  module _ (h : Share) (a : PlainActivation) (s : PlainStrand) (r : PlainRecord) (is : IsOfMemo setting (loop_at setting.codes a.procedure l) a.left) (more : (h.count == 0) ≡ false)
      (answer : IsAnswer setting (loop_at setting.codes a.procedure l) a.slots a.left (l.low +ℤ pos h.first) r) where
    abbrev here_now : PlainStrand
    here_now = with_work (Turns l h) a s

    abbrev loop : PlainLoop
    loop = loop_at setting.codes a.procedure l

    abbrev later : Work
    later = Turns l (rest_of h)

    -- the iteration's instance, not entered yet
    abbrev called_now : PlainStrand
    called_now = pushed (child_of loop.callee (slots_for (slots_of setting.codes loop.callee) r.arguments) here_now) false None later Entering (with_arguments r.arguments here_now)

    abbrev turned_once : PlainStrand
    turned_once = with_work later (waiting false None later a) (with_answer (iteration_depth a) r s)

    turn_reuses : IsNext setting here_now (reused r called_now)
    turn_reuses kit =
        let x = here_now in
        let es : List Linked = map expression loop.arguments in
        sym (ap (λ b. if b then giving (pos 0) x else turn_by setting kit loop l h x) more
        ∙ ap (λ b. called_as setting kit b loop.number Call None later loop.callee es (turn_slots loop l h x) x) is.memo
        ∙ ap (λ o. evaluated loop.number o (nested_memo setting kit loop.number Call None later loop.callee) x) answer.values
        ∙ ap (λ m. nested_memo setting kit loop.number Call None later loop.callee r.arguments (record x { layer = m })) (noting_none x.layer)
        ∙ ap (λ b. if b then faulted loop.number TooDeep (with_arguments r.arguments x) else entered setting kit Call None later loop.callee (slots_for (slots_of setting.codes loop.callee) r.arguments) (with_arguments r.arguments x)) is.room
        ∙ ap (λ b. started_as setting kit b called_now) is.memo
        ∙ ap (λ o. recalled setting kit o called_now) answer.found)

    turn_leaves : IsNext setting (reused r called_now) turned_once
    turn_leaves kit = ap (λ p. record turned_once { path = p }) (sym (path_back s.path (a.children + 1)))

    pub turn_answered : IsWay setting here_now turned_once
    turn_answered = on (reused r called_now) turned_once (on here_now (reused r called_now) here turn_reuses) turn_leaves

  pub turns_way : (rs : List PlainRecord) (h : Share) (a : PlainActivation) (s : PlainStrand) → IsOfMemo setting (loop_at setting.codes a.procedure l) a.left → length rs ≤ h.count → AreAnswers setting (loop_at setting.codes a.procedure l) a.slots a.left l.low h.first rs
      → IsWay setting (with_work (Turns l h) a s) (record (with_answers (iteration_depth a) rs s) { top = turned_to (length rs) l h a; phase = Running })
  turns_way [] h a s is room answers =
      let none : s.tally.reused + 0 ≡ s.tally.reused = omega arith in
      subst (λ n. IsWay setting (with_work (Turns l h) a s) (record s { top = at (Turns l h) a; phase = Running; tally = record s.tally { reused = n } })) (sym none) here
  turns_way (r ∷ rs) h a s is room answers =
      let d = iteration_depth a in
      let later = Turns l (rest_of h) in
      let b = waiting false None later a in
      let t = with_answer d r s in
      let fits : length rs ≤ h.count - 1 = omega arith in
      let first : IsWay setting (with_work (Turns l h) a s) (with_work later b t) = turn_answered h a s r is (not_none h.count (length rs) room) answers.0 in
      let rest : IsWay setting (with_work later b t) (record (with_answers d rs t) { top = turned_to (length rs) l (rest_of h) b; phase = Running }) = turns_way rs (rest_of h) b t is fits answers.1 in
      let sums : suc s.tally.reused + length rs ≡ s.tally.reused + suc (length rs) = omega arith in
      let whole : IsWay setting (with_work (Turns l h) a s) (record (with_answers d rs t) { top = turned_to (length rs) l (rest_of h) b; phase = Running }) = way_join setting _ _ _ first rest in
      subst (λ n. IsWay setting (with_work (Turns l h) a s) (record (with_answers d (r ∷ rs) s) { top = turned_to (suc (length rs)) l h a; phase = Running; tally = record s.tally { reused = n } })) sums
      (subst (λ (x : PlainActivation). IsWay setting (with_work (Turns l h) a s) (record (with_answers d rs t) { top = x; phase = Running })) (turned_more (length rs) l h a) whole)
