-- No step makes or loses a kit.
use Rattle.std.proofs.Common.{◌+◌, ◌-◌, ◌≤◌, ◌<◌, ℕ, zero, suc, List, [], ◌∷◌, ◌++◌, length, append_assoc, Option, Some, None, Ok, ◌≡◌, inl, inr, refl, sym, ap, ◌∙◌, subst, arith, true, false, Bool, nat_lt, ltb-true, ◌&&◌, cond}
use Rattle.meaning.specs.Tables.{Tables}
use Rattle.meaning.specs.Outcome.{Place, Leaves}
use Rattle.meaning.specs.Elision.{Answer, depth_limit}
use Rattle.meaning.specs.Records.{Revised}
use Rattle.meaning.specs.SmallStep.{same_name, Phase, entering, running, spawning, returning, leaving, broken, Parent, at_spawn, at_sync, returned, faulted, Layers, noting, opening_one, closing_one, Step, moved, taken, paused, Continuation}
use Rattle.meaning.specs.Layers.{Notes, noted_top, notes_of}
use Rattle.meaning.specs.LayeredStrand.{LayeredStrand, joined, joined_layers}
use Rattle.meaning.specs.Strands.{State, Held, Ended, Stalled, BookStep, Fold}
use Rattle.meaning.specs.Strands as strands
use Rattle.meaning.specs.Schedules.{Memory, Piece, RunState, RunStep, Change, work, push, inline, pop, stall, steal, fold, first_state, place_of, place_of_start, is_held_by, is_idle, among, changed, kits_after, step_of, worked_by, worked, pushed_at, pushed, inlined_at, inlined_of, popped_at, popped, robbed_of, stolen_from, bottom_alone, left_by, stalled_by, stalled_at, stalled, broken_pair, joined_pair, folded_by, folded, folded_among, folded_at, after_step, or_same, path, answer_by, answer_of_pieces}
use Rattle.run_theory.specs.RightRuns.{front, flags_of, deque_flags, count, IsLaid}
use Rattle.strand_theory.specs.Ready.{IsReady}
use Rattle.run_theory.specs.Theorems.{IsRightNow, layers_in, kits_of, StepsKeepKits, PathsKeepKits, EndsFreeKits}
use Rattle.run_theory.proofs.Flags.{Moves, same, called, recorded, entered, closes, leaves, Shifts}
use Rattle.strand_theory.proofs.Names.{both_are}
use Rattle.run_theory.proofs.Owned.{Counted, own_after, noted_length, take_length, layers_length, owns_one}
use Rattle.run_theory.proofs.Pieces.{ForSome, some_is, either, behind_long}
use Rattle.strand_theory.proofs.Laws.{S, L}
use Rattle.run_theory.proofs.Steps.{FitPiece, FitAll, Whole, worked_broken, shifts_of}
use Rattle.run_theory.proofs.Stalls.{bottom_one}
use Rattle.run_theory.proofs.Paths.{idle, kept_or, step_right, begins_right, paths_right}

layers_append : (a b : List Piece) → layers_in (a ++ b) ≡ layers_in a + layers_in b
layers_append [] b = omega arith
layers_append (p ∷ a) b = let h : layers_in (a ++ b) ≡ layers_in a + layers_in b = layers_append a b in omega arith

kits_counted : (l : Layers) (kits n n' : ℕ) → Counted l n n' → (l ≡ opening_one → 0 < kits) → kits_after l kits + suc n' ≡ kits + suc n
kits_counted noting kits n n' c k = ap (λ x. kits + suc x) c
kits_counted opening_one kits n n' c k = let h : 0 < kits = k refl in let q : n' ≡ suc n = c in omega arith
kits_counted closing_one kits n n' c k = let q : n ≡ suc n' = c in omega arith

opening_kit : {kit : Bool} {R : Type 0} {l : Layers} {bs bs' : List Bool} → Moves kit R l bs bs' → l ≡ opening_one → kit ≡ true
opening_kit same e = absurd cc
opening_kit called e = absurd cc
opening_kit (recorded q) e = q
opening_kit (entered h q) e = q
opening_kit (closes h) e = absurd cc
opening_kit (leaves h) e = absurd cc

module _ (program : Revised) (tables : Tables) (memory : Memory) where
  -- the free kits and the layers of the pieces in a piece's place
  abbrev SameKits : ℕ → ℕ → Change → Type 0
  SameKits kits n c = c.kits + layers_in c.pieces ≡ kits + n

  abbrev KeepsKits : ℕ → ℕ → (Piece → Option Change) → Type 0
  KeepsKits w kits change = (first : Bool) (found later : List Bool) (p : Piece) (ps : List Piece) → is_held_by w p ≡ true → FitPiece program tables memory first p found later (front ps) → FitAll program tables memory false ps later → ForSome (SameKits kits (length p.strand.layers)) (change p)

  abbrev TotalKits : ℕ → RunState → Type 0
  TotalKits n t = kits_of t ≡ n

  among_kits : (kits : ℕ) (before : List Piece) (p : Piece) (ps : List Piece) (history : List BookStep) (o : Option Change) → ForSome (SameKits kits (length p.strand.layers)) o → ForSome (TotalKits (kits + layers_in (before ++ p ∷ ps))) (among before ps history o)
  among_kits kits before p ps history None h = tt
  among_kits kits before p ps history (Some c) h =
      let a : layers_in (before ++ (c.pieces ++ ps)) ≡ layers_in before + layers_in (c.pieces ++ ps) = layers_append before (c.pieces ++ ps) in
      let b : layers_in (c.pieces ++ ps) ≡ layers_in c.pieces + layers_in ps = layers_append c.pieces ps in
      let d : layers_in (before ++ p ∷ ps) ≡ layers_in before + (length p.strand.layers + layers_in ps) = layers_append before (p ∷ ps) in
      let e : c.kits + layers_in c.pieces ≡ kits + length p.strand.layers = h in
      omega arith

  pub inner : (before ps : List Piece) (first : Bool) (found : List Bool) → FitAll program tables memory first (before ++ ps) found → (b : Bool) × ((f : List Bool) × FitAll program tables memory b ps f)
  inner [] ps first found h = (first, (found, h))
  inner (q ∷ before) ps first found h = inner before ps false h.0 h.2

  changed_kits : (w kits : ℕ) (change : Piece → Option Change) → KeepsKits w kits change → (before ps : List Piece) (history : List BookStep) (first : Bool) (found : List Bool) → FitAll program tables memory first (before ++ ps) found → ForSome (TotalKits (kits + layers_in (before ++ ps))) (changed w change before ps history)
  changed_kits w kits change k before [] history first found h = tt
  changed_kits w kits change k before (p ∷ ps) history first found h =
      either (TotalKits (kits + layers_in (before ++ p ∷ ps))) (is_held_by w p) (among before ps history (change p)) (changed w change (before ++ p ∷ []) ps history)
      (λ e. let i = inner before (p ∷ ps) first found h in among_kits kits before p ps history (change p) (k i.0 i.1.0 i.1.1.0 p ps e i.1.1.1 i.1.1.2))
      (subst (λ u. ForSome (TotalKits (kits + layers_in u)) (changed w change (before ++ p ∷ []) ps history)) (append_assoc before (p ∷ []) ps)
      (changed_kits w kits change k (before ++ p ∷ []) ps history first found (subst (λ u. FitAll program tables memory first u found) (sym (append_assoc before (p ∷ []) ps)) h)))

  alone_is : (kits n m : ℕ) → m ≡ n → kits + (m + 0) ≡ kits + n
  alone_is kits n m e = omega (arith, e)

  -- ---- work

  work_kits : (kits w : ℕ) (first : Bool) (found later : List Bool) (p : Piece) (ps : List Piece) → FitPiece program tables memory first p found later (front ps) → (h : Whole program tables memory p found later (front ps)) → FitAll program tables memory false ps later
      → (st : Step) → Shifts p.strand.start (memory.recording && nat_lt 0 kits) (length (place_of p) ≤ length p.strand.frame.instance) p.strand.frame p.strand.under st
      → ForSome (SameKits kits (length p.strand.layers)) (worked_by program tables memory kits p st)
  work_kits kits w first found later p ps i h rest (moved l evs fr ph t) s =
      let ds = deque_flags p.deque in
      let one = owns_one program.tree tables (S program tables memory) (L program tables memory) p found later (front ps) h i.deque (behind_long program.tree tables (S program tables memory) (L program tables memory) false ps later rest) i.as_long in
      let o = own_after h.own (ds ++ later) found s.moves one (sym (append_assoc (flags_of p.strand.frame p.strand.under) ds later) ∙ h.flags) in
      let a = layers_length program.tree l p.strand.layers evs (count h.own) (count o.after) h.layers o.counted in
      let b = kits_counted l kits (count h.own) (count o.after) o.counted (λ q. ltb-true 0 kits (both_are memory.recording (nat_lt 0 kits) (opening_kit s.moves q)).1) in
      ap (λ x. kits_after l kits + (x + 0)) a ∙ zero_last (kits_after l kits) (suc (count o.after)) ∙ b ∙ ap (λ x. kits + x) (sym h.layers)
    where
      zero_last : (x y : ℕ) → x + (y + 0) ≡ x + y
      zero_last x y = omega arith
  work_kits kits w first found later p ps i h rest (taken evs k fr ph t) s =
      alone_is kits (length p.strand.layers) _ (take_length program.tree (notes_of k (depth_limit - fr.left)) (noted_top p.strand.layers evs) ∙ noted_length p.strand.layers evs)
  work_kits kits w first found later p ps i h rest (paused e) s = tt

  works_kits : (kits w : ℕ) → KeepsKits w kits (worked program tables memory kits)
  works_kits kits w first found later p ps held i rest =
      elim i.fits [
        | inl h ↦ work_kits kits w first found later p ps i h rest (step_of program tables memory kits p.strand) (shifts_of program tables memory kits p found later (front ps) h)
        | inr c ↦ worked_broken program tables memory kits (SameKits kits (length p.strand.layers)) p c.fault c.phase
      ]

  -- ---- push, inline and pop

  push_kits : (kits : ℕ) (p : Piece) (ph : Phase) → ForSome (SameKits kits (length p.strand.layers)) (pushed_at program tables memory kits p ph)
  push_kits kits p (spawning d x child todo) = alone_is kits (length p.strand.layers) _ refl
  push_kits kits p (entering child) = tt
  push_kits kits p (running todo) = tt
  push_kits kits p (returning v) = tt
  push_kits kits p (leaving v) = tt
  push_kits kits p (broken k) = tt

  inline_kits : (kits : ℕ) (p : Piece) (ph : Phase) → ForSome (SameKits kits (length p.strand.layers)) (inlined_at program tables memory kits p ph)
  inline_kits kits p (spawning d x child todo) = alone_is kits (length p.strand.layers) _ refl
  inline_kits kits p (entering child) = tt
  inline_kits kits p (running todo) = tt
  inline_kits kits p (returning v) = tt
  inline_kits kits p (leaving v) = tt
  inline_kits kits p (broken k) = tt

  pop_kits : (kits : ℕ) (p : Piece) (ph : Phase) (t : List Parent) (ks : List Continuation) → ForSome (SameKits kits (length p.strand.layers)) (popped_at program tables memory kits p ph t ks)
  pop_kits kits p (leaving v) [] (k ∷ ks) = alone_is kits (length p.strand.layers) _ (noted_length p.strand.layers (Leaves p.strand.frame.instance (Ok v) ∷ []))
  pop_kits kits p (leaving v) [] [] = tt
  pop_kits kits p (leaving v) (q ∷ t) ks = tt
  pop_kits kits p (spawning d x child todo) t ks = tt
  pop_kits kits p (entering child) t ks = tt
  pop_kits kits p (running todo) t ks = tt
  pop_kits kits p (returning v) t ks = tt
  pop_kits kits p (broken k) t ks = tt

  -- ---- steal and stall

  rob_kits : (thief kits : ℕ) (p : Piece) (younger older : List Continuation) → ForSome (SameKits (suc kits) (length p.strand.layers)) (robbed_of program tables memory thief kits p younger older)
  rob_kits thief kits p younger [] = tt
  rob_kits thief kits p younger (k ∷ []) = stolen_one kits (length p.strand.layers)
    where
      stolen_one : (x y : ℕ) → x + (y + (1 + 0)) ≡ suc x + y
      stolen_one x y = omega arith
  rob_kits thief kits p younger (k ∷ j ∷ ks) = rob_kits thief kits p (younger ++ k ∷ []) (j ∷ ks)

  steal_kits : (thief kits : ℕ) (p : Piece) → ForSome (SameKits kits (length p.strand.layers)) (stolen_from program tables memory thief kits p)
  steal_kits thief zero p = tt
  steal_kits thief (suc kits) p = rob_kits thief kits p [] p.deque

  left_kits : (kits : ℕ) (p : Piece) (n : Place) → ForSome (SameKits kits (length p.strand.layers)) (left_by program tables memory kits p n)
  left_kits kits p [] = alone_is kits (length p.strand.layers) _ refl
  left_kits kits p (a ∷ n) = alone_is kits (length p.strand.layers) _ refl

  sync_kits : (kits : ℕ) (p : Piece) (s : Step) → ForSome (SameKits kits (length p.strand.layers)) (stalled_by program tables memory kits p s)
  sync_kits kits p (paused at_sync) = alone_is kits (length p.strand.layers) _ refl
  sync_kits kits p (paused at_spawn) = tt
  sync_kits kits p (paused returned) = tt
  sync_kits kits p (paused faulted) = tt
  sync_kits kits p (moved l evs fr ph t) = tt
  sync_kits kits p (taken evs k fr ph t) = tt

  -- a strand has a layer
  has_layer : (first : Bool) (p : Piece) (found later : List Bool) (e : Place) → FitPiece program tables memory first p found later e → (n : ℕ) × (length p.strand.layers ≡ suc n)
  has_layer first p found later e i = elim i.fits [ inl h ↦ (count h.own, h.layers) | inr c ↦ (c.upper, c.layers) ]

  fault_kits : (kits n x y : ℕ) → y ≡ 1 → x ≡ suc n → (kits + (x - 1)) + (y + 0) ≡ kits + x
  fault_kits kits n x y e f = omega (arith, e, f)

  stall_kits : (kits : ℕ) (p : Piece) (n : ℕ) → length p.strand.layers ≡ suc n → (ph : Phase) (t : List Parent) (ks : List Continuation) → ForSome (SameKits kits (length p.strand.layers)) (stalled_at program tables memory kits p ph t ks)
  stall_kits kits p n q (broken k) t ks = fault_kits kits n (length p.strand.layers) (length (bottom_alone program tables memory p.strand.layers)) (bottom_one program tables memory p.strand.layers n q) q
  stall_kits kits p n q (leaving v) [] [] = left_kits kits p p.strand.frame.instance
  stall_kits kits p n q (leaving v) [] (k ∷ ks) = tt
  stall_kits kits p n q (leaving v) (r ∷ t) [] = sync_kits kits p (step_of program tables memory kits p.strand)
  stall_kits kits p n q (leaving v) (r ∷ t) (k ∷ ks) = tt
  stall_kits kits p n q (entering child) t [] = sync_kits kits p (step_of program tables memory kits p.strand)
  stall_kits kits p n q (entering child) t (k ∷ ks) = tt
  stall_kits kits p n q (running todo) t [] = sync_kits kits p (step_of program tables memory kits p.strand)
  stall_kits kits p n q (running todo) t (k ∷ ks) = tt
  stall_kits kits p n q (spawning d x child todo) t [] = sync_kits kits p (step_of program tables memory kits p.strand)
  stall_kits kits p n q (spawning d x child todo) t (k ∷ ks) = tt
  stall_kits kits p n q (returning v) t [] = sync_kits kits p (step_of program tables memory kits p.strand)
  stall_kits kits p n q (returning v) t (k ∷ ks) = tt

  stalls_kits : (kits w : ℕ) → KeepsKits w kits (stalled program tables memory kits)
  stalls_kits kits w first found later p ps held i rest =
      let n = has_layer first p found later (front ps) i in
      stall_kits kits p n.0 n.1 p.strand.phase p.strand.under p.deque

  -- ---- fold

  one_of : (st : State) (s : LayeredStrand) (ks : List Continuation) → strands.waits st ≡ true → IsLaid st s ks → length s.layers ≡ 1
  one_of (Held w) s ks e h = absurd cc
  one_of Ended s ks e h = absurd cc
  one_of Stalled s ks e h = h.one_layer
  one_of strands.Faulted s ks e h = h.one_layer
  one_of strands.Finished s ks e h = absurd cc

  abbrev SameLayers : Piece → Piece → Type 0
  SameLayers l q = length q.strand.layers ≡ length l.strand.layers

  joined_length : (ls rs : List Notes) → length (joined_layers program.tree ls rs) ≡ length ls
  joined_length ls [] = refl
  joined_length ls (r ∷ rs) = take_length program.tree r ls

  cond_same : (w : ℕ) (l r : Piece) (b : Bool) (s : LayeredStrand) → length s.layers ≡ length l.strand.layers → ForSome (SameLayers l) (folded_by program tables memory w l r (cond b (Some s) None))
  cond_same w l r true s e = e
  cond_same w l r false s e = tt

  pair_layers : (w : ℕ) (l r : Piece) (ph q : Phase) → ForSome (SameLayers l) (folded_by program tables memory w l r (joined_pair program tables memory l.strand ph r.strand q))
  pair_layers w l r (broken k) q = refl
  pair_layers w l r (leaving v) (broken k) = cond_same w l r (same_name l.strand.frame.instance (place_of_start r.strand.start)) (broken_pair program tables memory l.strand r.strand k) refl
  pair_layers w l r (leaving v) (entering child) = cond_same w l r _ (joined program.tree l.strand v r.strand) (joined_length l.strand.layers r.strand.layers)
  pair_layers w l r (leaving v) (running todo) = cond_same w l r _ (joined program.tree l.strand v r.strand) (joined_length l.strand.layers r.strand.layers)
  pair_layers w l r (leaving v) (spawning d x child todo) = cond_same w l r _ (joined program.tree l.strand v r.strand) (joined_length l.strand.layers r.strand.layers)
  pair_layers w l r (leaving v) (returning u) = cond_same w l r _ (joined program.tree l.strand v r.strand) (joined_length l.strand.layers r.strand.layers)
  pair_layers w l r (leaving v) (leaving u) = cond_same w l r _ (joined program.tree l.strand v r.strand) (joined_length l.strand.layers r.strand.layers)
  pair_layers w l r (entering child) q = tt
  pair_layers w l r (running todo) q = tt
  pair_layers w l r (spawning d x child todo) q = tt
  pair_layers w l r (returning v) q = tt

  abbrev Folds : Piece → Piece → Piece → Type 0
  Folds l r q = (length q.strand.layers ≡ length l.strand.layers) × (length r.strand.layers ≡ 1)

  with_one : (l r : Piece) (o : Option Piece) → length r.strand.layers ≡ 1 → ForSome (SameLayers l) o → ForSome (Folds l r) o
  with_one l r None e h = tt
  with_one l r (Some q) e h = (h, e)

  fold_layers : (w : ℕ) (first : Bool) (found later : List Bool) (e : Place) (l r : Piece) → FitPiece program tables memory first r found later e → ForSome (Folds l r) (folded program tables memory w l r)
  fold_layers w first found later e l r i =
      either (Folds l r) (strands.done l.state && strands.waits r.state) (folded_by program tables memory w l r (joined_pair program tables memory l.strand l.strand.phase r.strand r.strand.phase)) None
      (λ z. with_one l r (folded_by program tables memory w l r (joined_pair program tables memory l.strand l.strand.phase r.strand r.strand.phase)) (one_of r.state r.strand r.deque (both_are (strands.done l.state) (strands.waits r.state) z).1 i.laid) (pair_layers w l r l.strand.phase r.strand.phase))
      tt

  fold_among_kits : (w kits : ℕ) (before : List Piece) (l r : Piece) (ps : List Piece) (history : List BookStep) (step : BookStep) (o : Option Piece) → ForSome (Folds l r) o → ForSome (TotalKits (kits + layers_in (before ++ l ∷ r ∷ ps))) (folded_among program tables memory w kits before ps history step o)
  fold_among_kits w kits before l r ps history step None h = tt
  fold_among_kits w kits before l r ps history step (Some q) h =
      let a : layers_in (before ++ q ∷ ps) ≡ layers_in before + (length q.strand.layers + layers_in ps) = layers_append before (q ∷ ps) in
      let b : layers_in (before ++ l ∷ r ∷ ps) ≡ layers_in before + (length l.strand.layers + (length r.strand.layers + layers_in ps)) = layers_append before (l ∷ r ∷ ps) in
      let c : length q.strand.layers ≡ length l.strand.layers = h.0 in
      let d : length r.strand.layers ≡ 1 = h.1 in
      omega arith

  folds_kits : (w : ℕ) (q : Place) (kits : ℕ) (before ps : List Piece) (history : List BookStep) (first : Bool) (found : List Bool) → FitAll program tables memory first (before ++ ps) found → ForSome (TotalKits (kits + layers_in (before ++ ps))) (folded_at program tables memory w q kits before ps history)
  folds_kits w q kits before [] history first found h = tt
  folds_kits w q kits before (l ∷ []) history first found h = tt
  folds_kits w q kits before (l ∷ r ∷ ps) history first found h =
      either (TotalKits (kits + layers_in (before ++ l ∷ r ∷ ps))) (same_name (place_of r) q)
      (folded_among program tables memory w kits before ps history (Fold (place_of l) (place_of r) w) (folded program tables memory w l r))
      (folded_at program tables memory w q kits (before ++ l ∷ []) (r ∷ ps) history)
      (λ e. let i = inner before (l ∷ r ∷ ps) first found h in
      fold_among_kits w kits before l r ps history (Fold (place_of l) (place_of r) w) (folded program tables memory w l r) (fold_layers w false i.1.1.0 i.1.1.2.0 (front ps) l r i.1.1.2.1))
      (subst (λ u. ForSome (TotalKits (kits + layers_in u)) (folded_at program tables memory w q kits (before ++ l ∷ []) (r ∷ ps) history)) (append_assoc before (l ∷ []) (r ∷ ps))
      (folds_kits w q kits (before ++ l ∷ []) (r ∷ ps) history first found (subst (λ u. FitAll program tables memory first u found) (sym (append_assoc before (l ∷ []) (r ∷ ps))) h)))

  -- ---- whole runs

  step_kits : (s : RunState) (e : RunStep) → IsRightNow program tables memory s → ForSome (TotalKits (kits_of s)) (after_step program tables memory s e)
  step_kits s (work w) h = changed_kits w s.kits (worked program tables memory s.kits) (works_kits s.kits w) [] s.pieces s.history true [] h
  step_kits s (push w) h = changed_kits w s.kits (pushed program tables memory s.kits) (λ first found later p ps held i rest. push_kits s.kits p p.strand.phase) [] s.pieces s.history true [] h
  step_kits s (inline w) h = changed_kits w s.kits (inlined_of program tables memory s.kits) (λ first found later p ps held i rest. inline_kits s.kits p p.strand.phase) [] s.pieces s.history true [] h
  step_kits s (pop w) h = changed_kits w s.kits (popped program tables memory s.kits) (λ first found later p ps held i rest. pop_kits s.kits p p.strand.phase p.strand.under p.deque) [] s.pieces s.history true [] h
  step_kits s (stall w) h = changed_kits w s.kits (stalled program tables memory s.kits) (stalls_kits s.kits w) [] s.pieces s.history true [] h
  step_kits s (steal t v) h =
      idle program tables memory (TotalKits (kits_of s)) (is_idle t s.pieces) (changed v (stolen_from program tables memory t s.kits) [] s.pieces s.history)
      (changed_kits v s.kits (stolen_from program tables memory t s.kits) (λ first found later p ps held i rest. steal_kits t s.kits p) [] s.pieces s.history true [] h)
  step_kits s (fold w q) h =
      idle program tables memory (TotalKits (kits_of s)) (is_idle w s.pieces) (folded_at program tables memory w q s.kits [] s.pieces s.history)
      (folds_kits w q s.kits [] s.pieces s.history true [] h)

answer_one : (st : State) (ph : Phase) (ls : List Notes) (s : LayeredStrand) (ks : List Continuation) → s.layers ≡ ls → IsLaid st s ks → ForSome (λ a. length ls ≡ 1) (answer_by st ph ls)
answer_one strands.Finished (leaving v) (l ∷ []) s ks e h = refl
answer_one strands.Faulted (broken k) ls s ks e h = ap length (sym e) ∙ h.one_layer
answer_one strands.Finished (leaving v) [] s ks e h = tt
answer_one strands.Finished (leaving v) (l ∷ m ∷ ls) s ks e h = tt
answer_one strands.Finished (entering child) ls s ks e h = tt
answer_one strands.Finished (running todo) ls s ks e h = tt
answer_one strands.Finished (spawning d x child todo) ls s ks e h = tt
answer_one strands.Finished (returning v) ls s ks e h = tt
answer_one strands.Finished (broken k) ls s ks e h = tt
answer_one strands.Faulted (entering child) ls s ks e h = tt
answer_one strands.Faulted (running todo) ls s ks e h = tt
answer_one strands.Faulted (spawning d x child todo) ls s ks e h = tt
answer_one strands.Faulted (returning v) ls s ks e h = tt
answer_one strands.Faulted (leaving v) ls s ks e h = tt
answer_one (Held w) ph ls s ks e h = tt
answer_one Ended ph ls s ks e h = tt
answer_one Stalled ph ls s ks e h = tt

end_layers : (ps : List Piece) → ForSome (λ a. layers_in ps ≡ 1) (answer_of_pieces ps) → (a : Answer) → answer_of_pieces ps ≡ Some a → layers_in ps ≡ 1
end_layers ps h a e = some_is (λ a. layers_in ps ≡ 1) (answer_of_pieces ps) a h e

plus_none : (A : Type 0) (n : ℕ) (o : Option A) → ForSome (λ a. n ≡ 1) o → ForSome (λ a. n + 0 ≡ 1) o
plus_none A n None h = tt
plus_none A n (Some a) h = omega (arith, h)

module _ (program : Revised) (tables : Tables) (memory : Memory) (ready : IsReady program tables memory) where
  pub steps_kits : StepsKeepKits program tables memory
  steps_kits s t e h q = some_is (TotalKits program tables memory (kits_of s)) (after_step program tables memory s e) t (step_kits program tables memory s e h) q

  path_kits : (es : List RunStep) (s : RunState) → IsRightNow program tables memory s → kits_of (path program tables memory s es) ≡ kits_of s
  path_kits [] s h = refl
  path_kits (e ∷ es) s h =
      let o = after_step program tables memory s e in
      let k = step_right program tables memory ready s e h in
      path_kits es (or_same program tables memory s o) (kept_or program tables memory (IsRightNow program tables memory) s o h k)
      ∙ kept_or program tables memory (TotalKits program tables memory (kits_of s)) s o refl (step_kits program tables memory s e h)

  pub paths_kits : PathsKeepKits program tables memory
  paths_kits kits es h = path_kits es (first_state program.tree kits) (begins_right program tables memory ready kits) ∙ (let p : 0 < kits = h in omega arith)

  last_one : (ps : List Piece) (found : List Bool) → FitAll program tables memory true ps found → ForSome (λ a. layers_in ps ≡ 1) (answer_of_pieces ps)
  last_one [] found h = tt
  last_one (p ∷ []) found h = plus_none Answer (length p.strand.layers) (answer_by p.state p.strand.phase p.strand.layers) (answer_one p.state p.strand.phase p.strand.layers p.strand p.deque refl h.1.laid)
  last_one (p ∷ q ∷ ps) found h = tt

  pub ends_kits : EndsFreeKits program tables memory
  ends_kits kits es a h e =
      let s = path program tables memory (first_state program.tree kits) es in
      let n : layers_in s.pieces ≡ 1 = end_layers s.pieces (last_one s.pieces [] (paths_right program tables memory ready kits es)) a e in
      let m : s.kits + layers_in s.pieces ≡ kits = paths_kits kits es h in
      omega arith
