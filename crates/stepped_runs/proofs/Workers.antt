-- The strands of a run stay with its workers.
use Rattle.std.proofs.Common.{◌≡◌, ℕ, ◌<◌, zero, suc, nat_lt, Bool, true, false, cond, List, [], ◌∷◌, ◌++◌, Option, Some, None, Result, Ok, Err, sym, ap, subst, ltb-true}
use Rattle.std.proofs.lemmas.Bool.{and_parts}
use Rattle.std.specs.Prelude.{ℤ}
use Rattle.meaning.specs.Outcome.{Place}
use Rattle.meaning.specs.SmallStep.{same_name}
use Rattle.meaning.specs.Strands.{BookStep}
use Rattle.meaning.specs.Schedules.{RunStep, work, push, inline, pop, stall, steal, fold}
use Rattle.positions.specs.Setting.{Setting}
use Rattle.positions.specs.declared.phase.Phase.{Phase}
use Rattle.positions.specs.declared.phase.Phase.TheVariants as phase
use Rattle.positions.specs.declared.phase.Paused.{Paused}
use Rattle.positions.specs.declared.phase.Paused.TheVariants as paused
use Rattle.positions.specs.Activations.{PlainActivation}
use Rattle.positions.specs.Advance.{pause_of}
use Rattle.positions.specs.Moves.{returned_of}
use Rattle.positions.specs.Strands.{PlainTask}
use Rattle.numbered_runs.specs.declared.refusal.Refusal.{Refusal}
use Rattle.numbered_runs.specs.declared.refusal.Refusal.TheVariants.{Nothing, NotThere}
use Rattle.stepped_runs.specs.Pieces.{PlainPiece, Change, place_of, is_held_by, pushed_over, pushed_at, pushed, inlined_at, inlined, popped_of, popped_by, popped, stalled_at, oldest, robbed_if, stolen_of, may_fold, worked_at, worked, stalled, stolen_from}
use Rattle.stepped_runs.specs.Runs.{PlainRun, among, changed, is_idle, if_idle, folded_if, folded_at, stepped, are_workers}
use Rattle.stepped_runs.specs.Halves.{IsHalfFoldedRun}
use Rattle.stepped_runs.specs.Progress.{IsByWorker, AreByWorkers}

-- what holds of a result, where there is one
abbrev ForOk : {A : Type 0} → (A → Type 0) → Result A Refusal → Type 0
ForOk P (Ok a) = P a
ForOk P (Err e) = Unit {0}

ok_is : {A : Type 0} (P : A → Type 0) (r : Result A Refusal) (a : A) → ForOk P r → r ≡ Ok a → P a
ok_is P r a h e = subst (ForOk P) e h

either : {A : Type 0} (P : A → Type 0) (b : Bool) (x y : Result A Refusal) → ForOk P x → ForOk P y → ForOk P (cond b x y)
either P true x y h k = h
either P false x y h k = k

module _ (n : ℕ) where
  by_append : (xs ys : List PlainPiece) → AreByWorkers n xs → AreByWorkers n ys → AreByWorkers n (xs ++ ys)
  by_append [] ys h k = k
  by_append (x ∷ xs) ys h k = (h.0, by_append xs ys h.1 k)

  abbrev Made : Change → Type 0
  Made c = AreByWorkers n c.pieces

  abbrev pub ByWorkers : PlainRun → Type 0
  ByWorkers s = AreByWorkers n s.pieces

  among_by : (before later : List PlainPiece) (history : List BookStep) (r : Result Change Refusal) → AreByWorkers n before → AreByWorkers n later → ForOk Made r → ForOk ByWorkers (among before later history r)
  among_by before later history (Err e) hb h k = tt
  among_by before later history (Ok c) hb h k = by_append before (c.pieces ++ later) hb (by_append c.pieces later k h)

  changed_by : (e : Refusal) (w : ℕ) (change : PlainPiece → Result Change Refusal) → ((p : PlainPiece) → IsByWorker n p.state → ForOk Made (change p)) → (before ps : List PlainPiece) (history : List BookStep) → AreByWorkers n before → AreByWorkers n ps
      → ForOk ByWorkers (changed e w change before ps history)
  changed_by e w change k before [] history hb h = tt
  changed_by e w change k before (p ∷ ps) history hb h =
      either ByWorkers (is_held_by w p) (among before ps history (change p)) (changed e w change (before ++ p ∷ []) ps history)
      (among_by before ps history (change p) hb h.1 (k p h.0))
      (changed_by e w change k (before ++ p ∷ []) ps history (by_append before (p ∷ []) hb (h.0, tt)) h.1)

  -- ---- what a step makes of a piece

  module _ (kits : ℕ) (p : PlainPiece) (h : IsByWorker n p.state) where
    pushes_over : (below : List PlainActivation) → ForOk Made (pushed_over below kits p)
    pushes_over [] = tt
    pushes_over (a ∷ below) = (h, tt)

    pushes : (ph : Phase) → ForOk Made (pushed_at ph kits p)
    pushes phase.AtSpawn = pushes_over p.strand.below
    pushes phase.Entering = tt
    pushes phase.Running = tt
    pushes (phase.Returning v) = tt
    pushes (phase.Leaving v) = tt
    pushes (phase.Broken f) = tt

    inlines : (ph : Phase) → ForOk Made (inlined_at ph kits p)
    inlines phase.AtSpawn = (h, tt)
    inlines phase.Entering = tt
    inlines phase.Running = tt
    inlines (phase.Returning v) = tt
    inlines (phase.Leaving v) = tt
    inlines (phase.Broken f) = tt

    pops_of : (tasks : List PlainTask) → ForOk Made (popped_of tasks kits p)
    pops_of [] = tt
    pops_of (task ∷ tasks) = (h, tt)

    pops : (v : Option ℤ) → ForOk Made (popped_by v kits p)
    pops None = tt
    pops (Some v) = pops_of p.deque

    stalls : (c : Paused) (tasks : List PlainTask) → ForOk Made (stalled_at c tasks kits p)
    stalls paused.Faulted tasks = (tt, tt)
    stalls paused.AtSync [] = (tt, tt)
    stalls paused.Returned [] = (tt, tt)
    stalls paused.Finished [] = (tt, tt)
    stalls paused.Working tasks = tt
    stalls paused.AtSpawn tasks = tt
    stalls paused.AtSync (k ∷ ks) = tt
    stalls paused.Returned (k ∷ ks) = tt
    stalls paused.Finished (k ∷ ks) = tt

  module _ (setting : Setting) where
    works : (kits : ℕ) (p : PlainPiece) → IsByWorker n p.state → (c : Paused) → ForOk Made (worked_at setting c kits p)
    works kits p h paused.Working = (h, tt)
    works kits p h paused.AtSpawn = tt
    works kits p h paused.AtSync = tt
    works kits p h paused.Returned = tt
    works kits p h paused.Finished = tt
    works kits p h paused.Faulted = tt

    robs : (thief kits : ℕ) (p : PlainPiece) (taken : List PlainTask × PlainTask) → thief < n → IsByWorker n p.state → ForOk Made (robbed_if setting thief kits p taken)
    robs thief zero p taken l h = tt
    robs thief (suc kits) p taken l h = (h, (l, tt))

    steals : (thief kits : ℕ) (p : PlainPiece) (tasks : List PlainTask) → thief < n → IsByWorker n p.state → ForOk Made (stolen_of setting thief kits p tasks)
    steals thief kits p [] l h = tt
    steals thief kits p (k ∷ ks) l h = robs thief kits p (oldest [] k ks) l h

    -- ---- folds

    folds_if : (m : Bool) (w kits : ℕ) (before : List PlainPiece) (l r : PlainPiece) (later : List PlainPiece) (history : List BookStep) → w < n → AreByWorkers n before → AreByWorkers n later → ForOk ByWorkers (folded_if m w kits before l r later history)
    folds_if false w kits before l r later history b hb h = tt
    folds_if true w kits before l r later history b hb h = by_append before _ hb (b, h)

    folds : (w : ℕ) (q : Place) (kits : ℕ) (before ps : List PlainPiece) (history : List BookStep) → w < n → AreByWorkers n before → AreByWorkers n ps → ForOk ByWorkers (folded_at w q kits before ps history)
    folds w q kits before [] history b hb h = tt
    folds w q kits before (l ∷ []) history b hb h = tt
    folds w q kits before (l ∷ r ∷ ps) history b hb h =
        either ByWorkers (same_name (place_of r) q) (folded_if (may_fold l r) w kits before l r ps history) (folded_at w q kits (before ++ l ∷ []) (r ∷ ps) history)
        (folds_if (may_fold l r) w kits before l r ps history b hb h.1.1)
        (folds w q kits (before ++ l ∷ []) (r ∷ ps) history b (by_append before (l ∷ []) hb (h.0, tt)) h.1)

    -- ---- steps

    idle : (b : Bool) (r : Result PlainRun Refusal) → ForOk ByWorkers r → ForOk ByWorkers (if_idle b r)
    idle true r h = h
    idle false r h = tt

    step_by : (s : PlainRun) (e : RunStep) → are_workers n e ≡ true → ByWorkers s → ForOk ByWorkers (stepped setting s e)
    step_by s (work w) a h = changed_by NotThere w (worked setting s.kits) (λ p k. works s.kits p k (pause_of setting.codes p.strand)) [] s.pieces s.history tt h
    step_by s (push w) a h = changed_by NotThere w (pushed s.kits) (λ p k. pushes s.kits p k p.strand.phase) [] s.pieces s.history tt h
    step_by s (inline w) a h = changed_by NotThere w (inlined s.kits) (λ p k. inlines s.kits p k p.strand.phase) [] s.pieces s.history tt h
    step_by s (pop w) a h = changed_by NotThere w (popped s.kits) (λ p k. pops s.kits p k (returned_of p.strand)) [] s.pieces s.history tt h
    step_by s (stall w) a h = changed_by NotThere w (stalled setting s.kits) (λ p k. stalls s.kits p k (pause_of setting.codes p.strand) p.deque) [] s.pieces s.history tt h
    step_by s (steal thief v) a h =
        let l = ltb-true thief n (and_parts (nat_lt thief n) (nat_lt v n) a).0 in
        idle (is_idle thief s.pieces) (changed Nothing v (stolen_from setting thief s.kits) [] s.pieces s.history)
        (changed_by Nothing v (stolen_from setting thief s.kits) (λ p k. steals thief s.kits p p.deque l k) [] s.pieces s.history tt h)
    step_by s (fold w q) a h = idle (is_idle w s.pieces) (folded_at w q s.kits [] s.pieces s.history) (folds w q s.kits [] s.pieces s.history (ltb-true w n a) tt h)

    pub steps_by : (s next : PlainRun) (e : RunStep) → are_workers n e ≡ true → stepped setting s e ≡ Ok next → ByWorkers s → ByWorkers next
    steps_by s next e a is h = ok_is ByWorkers (stepped setting s e) next (step_by s e a h) is

  -- ---- folds that memory was refused for

  half_by : (before later : List PlainPiece) (l r m o : PlainPiece) → m.state ≡ l.state → o.state ≡ r.state → AreByWorkers n (before ++ l ∷ r ∷ later) → AreByWorkers n (before ++ m ∷ o ∷ later)
  half_by [] later l r m o a b h = (subst (IsByWorker n) (sym a) h.0, (subst (IsByWorker n) (sym b) h.1.0, h.1.1))
  half_by (x ∷ before) later l r m o a b h = (h.0, half_by before later l r m o a b h.1)

  pub refused_by : (r s : PlainRun) → IsHalfFoldedRun r s → ByWorkers r → ByWorkers s
  refused_by r s f h =
      let p = f.pieces in
      subst (AreByWorkers n) (sym p.new)
      (half_by p.before p.later p.left p.right p.new_left p.new_right (ap (λ q. q.state) p.half.left) (ap (λ q. q.state) p.half.right) (subst (AreByWorkers n) p.old h))
