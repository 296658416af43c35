-- What more is known of a run: it has a strand, an ended one does not leave main, and a finished one leaves.
use Rattle.std.proofs.Common.{ℕ, zero, suc, ℤ, List, [], ◌∷◌, ◌++◌, Option, Some, None, ◌≡◌, refl, sym, ◌∙◌, true}
use Rattle.meaning.specs.Tables.{Tables}
use Rattle.meaning.specs.Outcome.{Place}
use Rattle.meaning.specs.Records.{Revised}
use Rattle.meaning.specs.SmallStep.{Phase, entering, running, spawning, returning, leaving, broken, Parent, at_spawn, at_sync, returned, faulted, Step, moved, taken, paused, Continuation, same_name}
use Rattle.meaning.specs.LayeredStrand.{LayeredStrand}
use Rattle.meaning.specs.Strands.{State, Held, Ended, Stalled, holds_by, BookStep, Fold}
use Rattle.meaning.specs.Strands as strands
use Rattle.meaning.specs.Schedules.{Memory, Piece, Change, RunState, RunStep, work, push, inline, pop, stall, steal, fold, first_state, is_held_by, is_idle, among, changed, place_of, step_of, worked_by, worked, pushed_at, pushed, inlined_at, inlined_of, popped_at, popped, robbed_of, stolen_from, left_by, stalled_by, stalled_at, stalled, joined_pair, may_fold, folded_by, folded, folded_among, folded_at, after_step, or_same, path}
use Rattle.trail_theory.specs.Order.{Every}
use Rattle.trail_theory.proofs.Places.{every_append}
use Rattle.run_theory.proofs.Pieces.{ForSome, either}
use Rattle.run_theory.proofs.Paths.{idle, kept_or}

abbrev pub LaidFits : State → LayeredStrand → Type 0
LaidFits (Held w) s = Unit {0}
LaidFits Ended s = s.frame.instance ≡ [] → ⊥
LaidFits Stalled s = Unit {0}
LaidFits strands.Faulted s = Unit {0}
LaidFits strands.Finished s = (v : ℤ) × (s.phase ≡ leaving v)

abbrev pub Laid : Piece → Type 0
Laid p = LaidFits p.state p.strand

abbrev pub Filled : List Piece → Type 0
Filled [] = ⊥
Filled (p ∷ ps) = Unit {0}

abbrev pub LaidOf : RunState → Type 0
LaidOf s = Filled s.pieces × Every Laid s.pieces

filled_left : (xs ys : List Piece) → Filled xs → Filled (xs ++ ys)
filled_left [] ys h = absurd h
filled_left (x ∷ xs) ys h = tt

filled_right : (xs ys : List Piece) → Filled ys → Filled (xs ++ ys)
filled_right [] ys h = h
filled_right (x ∷ xs) ys h = tt

held_fits : (w : ℕ) (st : State) (s : LayeredStrand) → holds_by w st ≡ true → LaidFits st s
held_fits w (Held v) s e = tt
held_fits w Ended s e = absurd cc
held_fits w Stalled s e = absurd cc
held_fits w strands.Faulted s e = absurd cc
held_fits w strands.Finished s e = absurd cc

abbrev Made : Change → Type 0
Made c = Filled c.pieces × Every Laid c.pieces

module _ (program : Revised) (tables : Tables) (memory : Memory) where
  among_laid : (before ps : List Piece) (history : List BookStep) (o : Option Change) → Every Laid before → Every Laid ps → ForSome Made o → ForSome LaidOf (among before ps history o)
  among_laid before ps history None hb h k = tt
  among_laid before ps history (Some c) hb h k = (filled_right before (c.pieces ++ ps) (filled_left c.pieces ps k.0), every_append Laid before (c.pieces ++ ps) hb (every_append Laid c.pieces ps k.1 h))

  changed_laid : (w : ℕ) (change : Piece → Option Change) → ((p : Piece) → is_held_by w p ≡ true → ForSome Made (change p)) → (before ps : List Piece) (history : List BookStep) → Every Laid before → Every Laid ps → ForSome LaidOf (changed w change before ps history)
  changed_laid w change k before [] history hb h = tt
  changed_laid w change k before (p ∷ ps) history hb h =
      either LaidOf (is_held_by w p) (among before ps history (change p)) (changed w change (before ++ p ∷ []) ps history)
      (λ e. among_laid before ps history (change p) hb h.1 (k p e))
      (changed_laid w change k (before ++ p ∷ []) ps history (every_append Laid before (p ∷ []) hb (h.0, tt)) h.1)

  module _ (kits w : ℕ) (p : Piece) (held : is_held_by w p ≡ true) where
    works : (s : Step) → ForSome Made (worked_by program tables memory kits p s)
    works (moved l evs fr ph t) = (tt, (held_fits w p.state _ held, tt))
    works (taken evs k fr ph t) = (tt, (held_fits w p.state _ held, tt))
    works (paused e) = tt

    pushes : (ph : Phase) → ForSome Made (pushed_at program tables memory kits p ph)
    pushes (spawning d x child todo) = (tt, (held_fits w p.state _ held, tt))
    pushes (entering child) = tt
    pushes (running todo) = tt
    pushes (returning v) = tt
    pushes (leaving v) = tt
    pushes (broken k) = tt

    inlines : (ph : Phase) → ForSome Made (inlined_at program tables memory kits p ph)
    inlines (spawning d x child todo) = (tt, (held_fits w p.state _ held, tt))
    inlines (entering child) = tt
    inlines (running todo) = tt
    inlines (returning v) = tt
    inlines (leaving v) = tt
    inlines (broken k) = tt

    pops : (ph : Phase) (under : List Parent) (ks : List Continuation) → ForSome Made (popped_at program tables memory kits p ph under ks)
    pops (leaving v) [] (k ∷ ks) = (tt, (held_fits w p.state _ held, tt))
    pops (leaving v) [] [] = tt
    pops (leaving v) (q ∷ under) ks = tt
    pops (entering child) under ks = tt
    pops (running todo) under ks = tt
    pops (spawning d x child todo) under ks = tt
    pops (returning v) under ks = tt
    pops (broken k) under ks = tt

    robs : (thief : ℕ) (younger ks : List Continuation) → ForSome Made (robbed_of program tables memory thief kits p younger ks)
    robs thief younger [] = tt
    robs thief younger (k ∷ []) = (tt, (held_fits w p.state _ held, (tt, tt)))
    robs thief younger (k ∷ j ∷ ks) = robs thief (younger ++ k ∷ []) (j ∷ ks)

  steals : (thief w kits : ℕ) (p : Piece) → is_held_by w p ≡ true → ForSome Made (stolen_from program tables memory thief kits p)
  steals thief w zero p held = tt
  steals thief w (suc kits) p held = robs kits w p held thief [] p.deque

  -- ---- laying down

  module _ (kits : ℕ) (p : Piece) where
    leaves : (v : ℤ) (n : Place) → p.strand.phase ≡ leaving v → p.strand.frame.instance ≡ n → ForSome Made (left_by program tables memory kits p n)
    leaves v [] e q = (tt, ((v, e), tt))
    leaves v (k ∷ n) e q = (tt, (λ z. let c : k ∷ n ≡ [] = sym q ∙ z in cc, tt))

    syncs : (s : Step) → ForSome Made (stalled_by program tables memory kits p s)
    syncs (paused at_sync) = (tt, (tt, tt))
    syncs (paused at_spawn) = tt
    syncs (paused returned) = tt
    syncs (paused faulted) = tt
    syncs (moved l evs fr ph t) = tt
    syncs (taken evs k fr ph t) = tt

    stalls : (ph : Phase) (under : List Parent) (ks : List Continuation) → p.strand.phase ≡ ph → ForSome Made (stalled_at program tables memory kits p ph under ks)
    stalls (broken k) under ks e = (tt, (tt, tt))
    stalls (leaving v) [] [] e = leaves v p.strand.frame.instance e refl
    stalls (leaving v) [] (k ∷ ks) e = tt
    stalls (leaving v) (q ∷ under) [] e = syncs (step_of program tables memory kits p.strand)
    stalls (leaving v) (q ∷ under) (k ∷ ks) e = tt
    stalls (entering child) under [] e = syncs (step_of program tables memory kits p.strand)
    stalls (entering child) under (k ∷ ks) e = tt
    stalls (running todo) under [] e = syncs (step_of program tables memory kits p.strand)
    stalls (running todo) under (k ∷ ks) e = tt
    stalls (spawning d x child todo) under [] e = syncs (step_of program tables memory kits p.strand)
    stalls (spawning d x child todo) under (k ∷ ks) e = tt
    stalls (returning v) under [] e = syncs (step_of program tables memory kits p.strand)
    stalls (returning v) under (k ∷ ks) e = tt

  -- ---- folds

  joins : (w : ℕ) (l r : Piece) (o : Option LayeredStrand) → ForSome Laid (folded_by program tables memory w l r o)
  joins w l r None = tt
  joins w l r (Some s) = tt

  folds_among : (w kits : ℕ) (before ps : List Piece) (history : List BookStep) (step : BookStep) (o : Option Piece) → Every Laid before → Every Laid ps → ForSome Laid o → ForSome LaidOf (folded_among program tables memory w kits before ps history step o)
  folds_among w kits before ps history step None hb h k = tt
  folds_among w kits before ps history step (Some p) hb h k = (filled_right before (p ∷ ps) tt, every_append Laid before (p ∷ ps) hb (k, h))

  folds : (w : ℕ) (q : Place) (kits : ℕ) (before ps : List Piece) (history : List BookStep) → Every Laid before → Every Laid ps → ForSome LaidOf (folded_at program tables memory w q kits before ps history)
  folds w q kits before [] history hb h = tt
  folds w q kits before (l ∷ []) history hb h = tt
  folds w q kits before (l ∷ r ∷ ps) history hb h =
      either LaidOf (same_name (place_of r) q) (folded_among program tables memory w kits before ps history (Fold (place_of l) (place_of r) w) (folded program tables memory w l r)) (folded_at program tables memory w q kits (before ++ l ∷ []) (r ∷ ps) history)
      (λ e. folds_among w kits before ps history (Fold (place_of l) (place_of r) w) (folded program tables memory w l r) hb h.1.1
      (either Laid (may_fold program tables memory l.state r.state) (folded_by program tables memory w l r (joined_pair program tables memory l.strand l.strand.phase r.strand r.strand.phase)) None
      (λ m. joins w l r (joined_pair program tables memory l.strand l.strand.phase r.strand r.strand.phase)) tt))
      (folds w q kits (before ++ l ∷ []) (r ∷ ps) history (every_append Laid before (l ∷ []) hb (h.0, tt)) h.1)

  -- ---- whole runs

  step_laid : (s : RunState) (e : RunStep) → LaidOf s → ForSome LaidOf (after_step program tables memory s e)
  step_laid s (work w) h = changed_laid w (worked program tables memory s.kits) (λ p e. works s.kits w p e (step_of program tables memory s.kits p.strand)) [] s.pieces s.history tt h.1
  step_laid s (push w) h = changed_laid w (pushed program tables memory s.kits) (λ p e. pushes s.kits w p e p.strand.phase) [] s.pieces s.history tt h.1
  step_laid s (inline w) h = changed_laid w (inlined_of program tables memory s.kits) (λ p e. inlines s.kits w p e p.strand.phase) [] s.pieces s.history tt h.1
  step_laid s (pop w) h = changed_laid w (popped program tables memory s.kits) (λ p e. pops s.kits w p e p.strand.phase p.strand.under p.deque) [] s.pieces s.history tt h.1
  step_laid s (stall w) h = changed_laid w (stalled program tables memory s.kits) (λ p e. stalls s.kits p p.strand.phase p.strand.under p.deque refl) [] s.pieces s.history tt h.1
  step_laid s (steal t v) h =
      idle program tables memory LaidOf (is_idle t s.pieces) (changed v (stolen_from program tables memory t s.kits) [] s.pieces s.history)
      (changed_laid v (stolen_from program tables memory t s.kits) (λ p e. steals t v s.kits p e) [] s.pieces s.history tt h.1)
  step_laid s (fold w q) h =
      idle program tables memory LaidOf (is_idle w s.pieces) (folded_at program tables memory w q s.kits [] s.pieces s.history) (folds w q s.kits [] s.pieces s.history tt h.1)

  path_laid : (es : List RunStep) (s : RunState) → LaidOf s → LaidOf (path program tables memory s es)
  path_laid [] s h = h
  path_laid (e ∷ es) s h = path_laid es (or_same program tables memory s (after_step program tables memory s e)) (kept_or program tables memory LaidOf s (after_step program tables memory s e) h (step_laid s e h))

  pub paths_laid : (kits : ℕ) (es : List RunStep) → LaidOf (path program tables memory (first_state program.tree kits) es)
  paths_laid kits es = path_laid es (first_state program.tree kits) (tt, (tt, tt))
