-- The steps of a run without flags are those of the run with flags, where each flag that is asked for is the one that the test gives.
use Rattle.std.proofs.Common.{◌&&◌, ◌+◌, zero, ℕ, suc, ℤ, List, [], ◌∷◌, ◌++◌, map, Option, Some, None, ◌≡◌, refl, sym, ap, ◌∙◌, subst, true, false, Bool, cond, nat_lt}
use Rattle.meaning.specs.Tree.{bind, enter, read, sync, update, choose, loop, give, end, step}
use Rattle.meaning.specs.Tables.{Tables}
use Rattle.meaning.specs.Outcome.{Log, Place, Accumulators}
use Rattle.meaning.specs.Records.{Revised}
use Rattle.meaning.specs.SmallStep.{Start, same_name, is_entry, Frame, blocks, halves, second, turns, Phase, entering, running, spawning, returning, leaving, broken, Parent, with_layer, Layers, at_spawn, at_sync, returned, faulted, Step, moved, taken, paused, unless, micro, Continuation}
use Rattle.meaning.specs.Layers.{bottom, total}
use Rattle.meaning.specs.LayeredStrand.{LayeredStrand, advanced, joined}
use Rattle.meaning.specs.Strands.{State, BookStep, Fold}
use Rattle.meaning.specs.Strands as strands
use Rattle.meaning.specs.Schedules.{Memory, Piece, RunState, RunStep, Change, work, push, inline, pop, stall, steal, fold, first_state, place_of, place_of_start, line_of, is_held_by, is_idle, among, changed, kits_after, step_of, worked_by, worked, pushed_at, pushed, inlined_at, inlined_of, popped_at, popped, robbed_of, stolen_from, left_by, stalled_by, stalled_at, stalled, none_waits, none_waits_under, may_join, joined_pair, folded_by, folded, folded_among, folded_at, if_idle, after_step, or_same, path, answer_of_pieces, end_of}
use Rattle.trail_theory.specs.Order.{Every}
use Rattle.trail_theory.specs.Right.{Sees}
use Rattle.trail_theory.specs.OwnLayers.{TopTest, is_top, frame_by}
use Rattle.trail_theory.specs.Unflagged.{unflagged_under, unflagged, unflagged_continuation, unflagged_step}
use Rattle.trail_theory.proofs.ReadPoints.{sees_when}
use Rattle.trail_theory.proofs.Unflagged.{no_matter}
use Rattle.run_theory.specs.UnflaggedRuns.{unflagged_piece, unflagged_run, unflagged_after, worked_with, step_by, path_by, RunsBy}
use Rattle.strand_theory.proofs.Laws.{L}
use Rattle.strand_theory.proofs.UnflaggedSteps.{micro_alike, tallied_alike}

map_append : {A B : Type 0} (f : A → B) (a b : List A) → map f (a ++ b) ≡ map f a ++ map f b
map_append f [] b = refl
map_append f (x ∷ a) b = ap (λ l. f x ∷ l) (map_append f a b)

-- ---- changes

abbrev unflagged_change : Option Change → Option Change
unflagged_change None = None
unflagged_change (Some c) = Some (record { pieces = map unflagged_piece c.pieces; kits = c.kits; noted = c.noted })

unflagged_among : (before later : List Piece) (history : List BookStep) (o : Option Change) → unflagged_after (among before later history o) ≡ among (map unflagged_piece before) (map unflagged_piece later) history (unflagged_change o)
unflagged_among before later history None = refl
unflagged_among before later history (Some c) =
    ap (λ ps. Some (record { pieces = ps; kits = c.kits; history = history ++ c.noted }))
    (map_append unflagged_piece before (c.pieces ++ later) ∙ ap (λ ps. map unflagged_piece before ++ ps) (map_append unflagged_piece c.pieces later))

cond_quiet : (b : Bool) (x y x' y' : Option RunState) → unflagged_after x ≡ x' → unflagged_after y ≡ y' → unflagged_after (cond b x y) ≡ cond b x' y'
cond_quiet true x y x' y' h k = h
cond_quiet false x y x' y' h k = k

-- a change of one piece, and what it is without flags
unflagged_changed : (w : ℕ) (change change' : Piece → Option Change) (before ps : List Piece) (history : List BookStep) → Every (λ p. unflagged_change (change p) ≡ change' (unflagged_piece p)) ps
    → unflagged_after (changed w change before ps history) ≡ changed w change' (map unflagged_piece before) (map unflagged_piece ps) history
unflagged_changed w change change' before [] history h = refl
unflagged_changed w change change' before (p ∷ ps) history h =
    cond_quiet (is_held_by w p) (among before ps history (change p)) (changed w change (before ++ p ∷ []) ps history) _ _
    (unflagged_among before ps history (change p) ∙ ap (among (map unflagged_piece before) (map unflagged_piece ps) history) h.0)
    (unflagged_changed w change change' (before ++ p ∷ []) ps history h.1
    ∙ ap (λ b. changed w change' b (map unflagged_piece ps) history) (map_append unflagged_piece before (p ∷ [])))

module _ (program : Revised) (tables : Tables) (memory : Memory) where
  -- the flag of an instance that returns off the entry is the one that the test gives, and a read gives the bottom layer's value
  pub record IsTold (test : TopTest) (p : Piece) : Type 0 where
    pub flag : is_entry p.strand.start p.strand.frame.instance ≡ false → frame_by test p.strand.phase p.tally.opened p.strand.frame ≡ p.strand.frame
    pub reads : Sees (bottom p.strand.layers) (total program.tree p.strand.layers).worth p.strand.phase

  -- ---- work and stall

  unflagged_worked : (kits : ℕ) (p : Piece) (st : Step) → unflagged_change (worked_by program tables memory kits p st) ≡ worked_by program tables memory kits (unflagged_piece p) (unflagged_step st)
  unflagged_worked kits p (moved l evs fr ph t) =
      let st = moved l evs fr ph t in
      ap (λ y. Some (record { pieces = record { strand = unflagged (advanced program.tree p.strand st); deque = map unflagged_continuation p.deque; state = p.state; tally = y } ∷ []; kits = kits_after l kits; noted = [] }))
      (sym (tallied_alike program p.strand.layers st p.tally))
  unflagged_worked kits p (taken evs k fr ph t) = refl
  unflagged_worked kits p (paused e) = refl

  unflagged_stalled : (kits : ℕ) (p : Piece) (st : Step) → unflagged_change (stalled_by program tables memory kits p st) ≡ stalled_by program tables memory kits (unflagged_piece p) (unflagged_step st)
  unflagged_stalled kits p (moved l evs fr ph t) = refl
  unflagged_stalled kits p (taken evs k fr ph t) = refl
  unflagged_stalled kits p (paused at_sync) = refl
  unflagged_stalled kits p (paused at_spawn) = refl
  unflagged_stalled kits p (paused returned) = refl
  unflagged_stalled kits p (paused faulted) = refl

  works_quiet : (test : TopTest) (kits : ℕ) (p : Piece) → IsTold test p → unflagged_change (worked program tables memory kits p) ≡ worked_with program tables memory test kits (unflagged_piece p)
  works_quiet test kits p told =
      let s = p.strand in
      unflagged_worked kits p (step_of program tables memory kits s)
      ∙ ap (worked_by program tables memory kits (unflagged_piece p)) (sym (micro_alike program.tree tables (L program tables memory) (memory.recording && nat_lt 0 kits) (bottom s.layers) (total program.tree s.layers).worth test p.tally.opened s.start s.frame s.phase s.under told.flag told.reads))

  pub pauses_quiet : (kits : ℕ) (q : Piece) (st : Step) → stalled_by program tables memory kits q (unflagged_step st) ≡ stalled_by program tables memory kits q st
  pauses_quiet kits q (moved l evs fr ph t) = refl
  pauses_quiet kits q (taken evs k fr ph t) = refl
  pauses_quiet kits q (paused at_sync) = refl
  pauses_quiet kits q (paused at_spawn) = refl
  pauses_quiet kits q (paused returned) = refl
  pauses_quiet kits q (paused faulted) = refl

  pub returns_quiet : (kits : ℕ) (q : Piece) (b : Bool) (l l' : Layers) (evs : Log) (fr : Frame) (ph : Phase) (t t' : List Parent)
      → stalled_by program tables memory kits q (unless b (moved l evs fr ph t)) ≡ stalled_by program tables memory kits q (unless b (moved l' evs fr ph t'))
  returns_quiet kits q true l l' evs fr ph t t' = refl
  returns_quiet kits q false l l' evs fr ph t t' = refl

  -- a strand is paused, or not, whatever a read gives
  module _ (kits : ℕ) (q : Piece) (m : Start) (fr : Frame) (t : List Parent) (acc' acc : Accumulators) where
    abbrev by_read : Accumulators → Phase → Step
    by_read a ph = micro program.tree tables (L program tables memory) (memory.recording && nat_lt 0 kits) a m fr ph t

    abbrev IsSamePause : Phase → Type 0
    IsSamePause ph = stalled_by program tables memory kits q (by_read acc' ph) ≡ stalled_by program tables memory kits q (by_read acc ph)

    unread : (ph : Phase) → frame_by is_top ph [] fr ≡ fr → Sees acc acc' ph → IsSamePause ph
    unread ph keep sees =
        let alike = λ (a b : Accumulators) (h : Sees a b ph). micro_alike program.tree tables (L program tables memory) (memory.recording && nat_lt 0 kits) a b is_top [] m fr ph t (λ z. keep) h in
        sym (pauses_quiet kits q (by_read acc' ph))
        ∙ ap (stalled_by program tables memory kits q) (sym (alike acc acc' sees) ∙ alike acc acc (sees_when acc acc ph (λ n x r b bs e. refl)))
        ∙ pauses_quiet kits q (by_read acc ph)

    pub pauses_whatever_is_read : (ph : Phase) → IsSamePause ph
    pauses_whatever_is_read (entering child) = unread (entering child) refl tt
    pauses_whatever_is_read (running (blocks [])) = unread (running (blocks [])) refl tt
    pauses_whatever_is_read (running (blocks (end ∷ bs))) = unread (running (blocks (end ∷ bs))) refl tt
    pauses_whatever_is_read (running (blocks (step s (bind x e) b ∷ bs))) = unread (running (blocks (step s (bind x e) b ∷ bs))) refl tt
    pauses_whatever_is_read (running (blocks (step s (enter x w f es) b ∷ bs))) = unread (running (blocks (step s (enter x w f es) b ∷ bs))) refl tt
    pauses_whatever_is_read (running (blocks (step s (read x r) b ∷ bs))) = refl
    pauses_whatever_is_read (running (blocks (step s sync b ∷ bs))) = unread (running (blocks (step s sync b ∷ bs))) refl tt
    pauses_whatever_is_read (running (blocks (step s (update r es) b ∷ bs))) = unread (running (blocks (step s (update r es) b ∷ bs))) refl tt
    pauses_whatever_is_read (running (blocks (step s (choose e x y) b ∷ bs))) = unread (running (blocks (step s (choose e x y) b ∷ bs))) refl tt
    pauses_whatever_is_read (running (blocks (step s (loop x e f g c es) b ∷ bs))) = unread (running (blocks (step s (loop x e f g c es) b ∷ bs))) refl tt
    pauses_whatever_is_read (running (blocks (step s (give e) b ∷ bs))) = unread (running (blocks (step s (give e) b ∷ bs))) refl tt
    pauses_whatever_is_read (running (halves k job count i)) = unread (running (halves k job count i)) refl tt
    pauses_whatever_is_read (running (second k job count i)) = unread (running (second k job count i)) refl tt
    pauses_whatever_is_read (running (turns job count i)) = unread (running (turns job count i)) refl tt
    pauses_whatever_is_read (spawning d x child todo) = refl
    pauses_whatever_is_read (returning v) = returns_quiet kits q (is_entry m fr.instance) _ _ _ _ _ t t
    pauses_whatever_is_read (leaving v) = unread (leaving v) refl tt
    pauses_whatever_is_read (broken k) = refl

  module _ (kits : ℕ) (p : Piece) where
    abbrev at_phase : Frame → Phase → List Parent → Step
    at_phase fr ph t = micro program.tree tables (L program tables memory) (memory.recording && nat_lt 0 kits) (total program.tree p.strand.layers).worth p.strand.start fr ph t

    -- a phase in which no flag is asked for
    alike : (ph : Phase) → frame_by is_top ph [] (with_layer false p.strand.frame) ≡ with_layer false p.strand.frame → frame_by is_top ph [] p.strand.frame ≡ p.strand.frame
        → unflagged_step (at_phase (with_layer false p.strand.frame) ph (unflagged_under p.strand.under)) ≡ unflagged_step (at_phase p.strand.frame ph p.strand.under)
    alike ph e k =
        let s = p.strand in
        let acc = (total program.tree s.layers).worth in
        ap (λ fr. unflagged_step (at_phase fr ph (unflagged_under s.under))) (sym e)
        ∙ micro_alike program.tree tables (L program tables memory) (memory.recording && nat_lt 0 kits) acc acc is_top [] s.start s.frame ph s.under (λ z. k) (sees_when acc acc ph (λ n x r b bs q. refl))

    by_alike : (ph : Phase) → unflagged_step (at_phase (with_layer false p.strand.frame) ph (unflagged_under p.strand.under)) ≡ unflagged_step (at_phase p.strand.frame ph p.strand.under)
        → stalled_by program tables memory kits (unflagged_piece p) (at_phase p.strand.frame ph p.strand.under) ≡ stalled_by program tables memory kits (unflagged_piece p) (at_phase (with_layer false p.strand.frame) ph (unflagged_under p.strand.under))
    by_alike ph e =
        sym (pauses_quiet kits (unflagged_piece p) (at_phase p.strand.frame ph p.strand.under))
        ∙ ap (stalled_by program tables memory kits (unflagged_piece p)) (sym e)
        ∙ pauses_quiet kits (unflagged_piece p) (at_phase (with_layer false p.strand.frame) ph (unflagged_under p.strand.under))

    -- whether a strand is paused at a sync
    pauses_alike : (ph : Phase) → stalled_by program tables memory kits (unflagged_piece p) (at_phase p.strand.frame ph p.strand.under) ≡ stalled_by program tables memory kits (unflagged_piece p) (at_phase (with_layer false p.strand.frame) ph (unflagged_under p.strand.under))
    pauses_alike (returning v) = returns_quiet kits (unflagged_piece p) (is_entry p.strand.start p.strand.frame.instance) _ _ _ _ _ p.strand.under (unflagged_under p.strand.under)
    pauses_alike (entering child) = by_alike (entering child) (alike (entering child) refl refl)
    pauses_alike (running todo) = by_alike (running todo) (alike (running todo) refl refl)
    pauses_alike (spawning d x child todo) = refl
    pauses_alike (leaving v) = by_alike (leaving v) (alike (leaving v) refl refl)
    pauses_alike (broken k) = refl

    syncs_quiet : unflagged_change (stalled_by program tables memory kits p (step_of program tables memory kits p.strand)) ≡ stalled_by program tables memory kits (unflagged_piece p) (step_of program tables memory kits (unflagged p.strand))
    syncs_quiet =
        let st = step_of program tables memory kits p.strand in
        unflagged_stalled kits p st ∙ pauses_quiet kits (unflagged_piece p) st ∙ pauses_alike p.strand.phase

    left_quiet : (n : Place) → unflagged_change (left_by program tables memory kits p n) ≡ left_by program tables memory kits (unflagged_piece p) n
    left_quiet [] = refl
    left_quiet (k ∷ n) = refl

    stalls_at : (ph : Phase) (t : List Parent) (ks : List Continuation) → unflagged_change (stalled_at program tables memory kits p ph t ks) ≡ stalled_at program tables memory kits (unflagged_piece p) ph (unflagged_under t) (map unflagged_continuation ks)
    stalls_at (broken k) t ks = refl
    stalls_at (leaving v) [] [] = left_quiet p.strand.frame.instance
    stalls_at (leaving v) [] (k ∷ ks) = refl
    stalls_at (leaving v) (r ∷ t) [] = syncs_quiet
    stalls_at (leaving v) (r ∷ t) (k ∷ ks) = refl
    stalls_at (entering child) t [] = syncs_quiet
    stalls_at (entering child) t (k ∷ ks) = refl
    stalls_at (running todo) t [] = syncs_quiet
    stalls_at (running todo) t (k ∷ ks) = refl
    stalls_at (spawning d x child todo) t [] = syncs_quiet
    stalls_at (spawning d x child todo) t (k ∷ ks) = refl
    stalls_at (returning v) t [] = syncs_quiet
    stalls_at (returning v) t (k ∷ ks) = refl

  -- ---- push, inline, pop, steal

  pushes_quiet : (kits : ℕ) (q : Piece) (ph : Phase) → unflagged_change (pushed_at program tables memory kits q ph) ≡ pushed_at program tables memory kits (unflagged_piece q) ph
  pushes_quiet kits q (spawning d x child todo) = refl
  pushes_quiet kits q (entering child) = refl
  pushes_quiet kits q (running todo) = refl
  pushes_quiet kits q (returning v) = refl
  pushes_quiet kits q (leaving v) = refl
  pushes_quiet kits q (broken k) = refl

  inlines_quiet : (kits : ℕ) (q : Piece) (ph : Phase) → unflagged_change (inlined_at program tables memory kits q ph) ≡ inlined_at program tables memory kits (unflagged_piece q) ph
  inlines_quiet kits q (spawning d x child todo) = refl
  inlines_quiet kits q (entering child) = refl
  inlines_quiet kits q (running todo) = refl
  inlines_quiet kits q (returning v) = refl
  inlines_quiet kits q (leaving v) = refl
  inlines_quiet kits q (broken k) = refl

  pops_quiet : (kits : ℕ) (q : Piece) (ph : Phase) (t : List Parent) (ks : List Continuation) → unflagged_change (popped_at program tables memory kits q ph t ks) ≡ popped_at program tables memory kits (unflagged_piece q) ph (unflagged_under t) (map unflagged_continuation ks)
  pops_quiet kits q (leaving v) [] (k ∷ ks) = refl
  pops_quiet kits q (leaving v) [] [] = refl
  pops_quiet kits q (leaving v) (r ∷ t) ks = refl
  pops_quiet kits q (entering child) t ks = refl
  pops_quiet kits q (running todo) t ks = refl
  pops_quiet kits q (spawning d x child todo) t ks = refl
  pops_quiet kits q (returning v) t ks = refl
  pops_quiet kits q (broken k) t ks = refl

  robs_quiet : (thief kits : ℕ) (q : Piece) (younger older : List Continuation) → unflagged_change (robbed_of program tables memory thief kits q younger older) ≡ robbed_of program tables memory thief kits (unflagged_piece q) (map unflagged_continuation younger) (map unflagged_continuation older)
  robs_quiet thief kits q younger [] = refl
  robs_quiet thief kits q younger (k ∷ []) = refl
  robs_quiet thief kits q younger (k ∷ j ∷ ks) =
      robs_quiet thief kits q (younger ++ k ∷ []) (j ∷ ks)
      ∙ ap (λ l. robbed_of program tables memory thief kits (unflagged_piece q) l (map unflagged_continuation (j ∷ ks))) (map_append unflagged_continuation younger (k ∷ []))

  steals_quiet : (thief kits : ℕ) (q : Piece) → unflagged_change (stolen_from program tables memory thief kits q) ≡ stolen_from program tables memory thief kits (unflagged_piece q)
  steals_quiet thief zero q = refl
  steals_quiet thief (suc kits) q = robs_quiet thief kits q [] q.deque

  -- ---- fold

  abbrev unflagged_strand : Option LayeredStrand → Option LayeredStrand
  unflagged_strand None = None
  unflagged_strand (Some s) = Some (unflagged s)

  abbrev pub unflagged_one : Option Piece → Option Piece
  unflagged_one None = None
  unflagged_one (Some p) = Some (unflagged_piece p)

  none_waits_same : (m : Start) (t : List Parent) → none_waits_under program tables memory m (unflagged_under t) ≡ none_waits_under program tables memory m t
  none_waits_same m [] = refl
  none_waits_same m (p ∷ t) = ap (λ b. none_waits program tables memory m p.frame && b) (none_waits_same m t)

  strand_if : (b : Bool) (s : LayeredStrand) → unflagged_strand (cond b (Some s) None) ≡ cond b (Some (unflagged s)) None
  strand_if true s = refl
  strand_if false s = refl

  joins_quiet : (l r : LayeredStrand) (v : ℤ)
      → unflagged_strand (cond (same_name l.frame.instance (place_of_start r.start) && may_join program tables memory l (joined program.tree l v r)) (Some (joined program.tree l v r)) None)
      ≡ cond (same_name l.frame.instance (place_of_start r.start) && may_join program tables memory (unflagged l) (joined program.tree (unflagged l) v (unflagged r))) (Some (joined program.tree (unflagged l) v (unflagged r))) None
  joins_quiet l r v =
      let named = same_name l.frame.instance (place_of_start r.start) in
      let both = (no_matter program tables (L program tables memory)).joins l r v in
      let may : may_join program tables memory l (joined program.tree l v r) ≡ may_join program tables memory l (unflagged (joined program.tree l v r)) =
      ap (λ b. none_waits program tables memory l.start (joined program.tree l v r).frame && b) (sym (none_waits_same l.start (joined program.tree l v r).under)) in
      strand_if (named && may_join program tables memory l (joined program.tree l v r)) (joined program.tree l v r)
      ∙ ap (λ b. cond (named && b) (Some (unflagged (joined program.tree l v r))) None) may
      ∙ ap (λ s. cond (named && may_join program tables memory l s) (Some s) None) both

  pair_quiet : (l r : LayeredStrand) (ph q : Phase) → unflagged_strand (joined_pair program tables memory l ph r q) ≡ joined_pair program tables memory (unflagged l) ph (unflagged r) q
  pair_quiet l r (broken k) q = refl
  pair_quiet l r (leaving v) (broken k) = strand_if (same_name l.frame.instance (place_of_start r.start)) _
  pair_quiet l r (leaving v) (entering child) = joins_quiet l r v
  pair_quiet l r (leaving v) (running todo) = joins_quiet l r v
  pair_quiet l r (leaving v) (spawning d x child todo) = joins_quiet l r v
  pair_quiet l r (leaving v) (returning w) = joins_quiet l r v
  pair_quiet l r (leaving v) (leaving w) = joins_quiet l r v
  pair_quiet l r (entering child) q = refl
  pair_quiet l r (running todo) q = refl
  pair_quiet l r (spawning d x child todo) q = refl
  pair_quiet l r (returning w) q = refl

  pub folded_quiet : (w : ℕ) (l r : Piece) → unflagged_one (folded program tables memory w l r) ≡ folded program tables memory w (unflagged_piece l) (unflagged_piece r)
  folded_quiet w l r = if_quiet (strands.done l.state && strands.waits r.state) (joined_pair program tables memory l.strand l.strand.phase r.strand r.strand.phase) ∙ ap (λ o. cond (strands.done l.state && strands.waits r.state) (folded_by program tables memory w (unflagged_piece l) (unflagged_piece r) o) None) (pair_quiet l.strand r.strand l.strand.phase r.strand.phase)
    where
      by_quiet : (o : Option LayeredStrand) → unflagged_one (folded_by program tables memory w l r o) ≡ folded_by program tables memory w (unflagged_piece l) (unflagged_piece r) (unflagged_strand o)
      by_quiet None = refl
      by_quiet (Some s) = refl

      if_quiet : (b : Bool) (o : Option LayeredStrand) → unflagged_one (cond b (folded_by program tables memory w l r o) None) ≡ cond b (folded_by program tables memory w (unflagged_piece l) (unflagged_piece r) (unflagged_strand o)) None
      if_quiet true o = by_quiet o
      if_quiet false o = refl

  among_quiet : (w kits : ℕ) (before ps : List Piece) (history : List BookStep) (st : BookStep) (o : Option Piece)
      → unflagged_after (folded_among program tables memory w kits before ps history st o) ≡ folded_among program tables memory w kits (map unflagged_piece before) (map unflagged_piece ps) history st (unflagged_one o)
  among_quiet w kits before ps history st None = refl
  among_quiet w kits before ps history st (Some p) = ap (λ l. Some (record { pieces = l; kits = kits + 1; history = history ++ st ∷ [] })) (map_append unflagged_piece before (p ∷ ps))

  folds_quiet : (w : ℕ) (q : Place) (kits : ℕ) (before ps : List Piece) (history : List BookStep)
      → unflagged_after (folded_at program tables memory w q kits before ps history) ≡ folded_at program tables memory w q kits (map unflagged_piece before) (map unflagged_piece ps) history
  folds_quiet w q kits before [] history = refl
  folds_quiet w q kits before (l ∷ []) history = refl
  folds_quiet w q kits before (l ∷ r ∷ ps) history =
      let st = Fold (place_of l) (place_of r) w in
      cond_quiet (same_name (place_of r) q) (folded_among program tables memory w kits before ps history st (folded program tables memory w l r)) (folded_at program tables memory w q kits (before ++ l ∷ []) (r ∷ ps) history) _ _
      (among_quiet w kits before ps history st (folded program tables memory w l r)
      ∙ ap (folded_among program tables memory w kits (map unflagged_piece before) (map unflagged_piece ps) history st) (folded_quiet w l r))
      (folds_quiet w q kits (before ++ l ∷ []) (r ∷ ps) history
      ∙ ap (λ b. folded_at program tables memory w q kits b (map unflagged_piece (r ∷ ps)) history) (map_append unflagged_piece before (l ∷ [])))

  -- ---- a step of a run

  idle_quiet : (b' b : Bool) (o : Option RunState) (o' : Option RunState) → b' ≡ b → unflagged_after o ≡ o' → unflagged_after (if_idle program tables memory b o) ≡ if_idle program tables memory b' o'
  idle_quiet true true o o' e h = h
  idle_quiet false false o o' e h = refl
  idle_quiet true false o o' e h = absurd cc
  idle_quiet false true o o' e h = absurd cc

  pub lines_same : (ps : List Piece) → map line_of (map unflagged_piece ps) ≡ map line_of ps
  lines_same [] = refl
  lines_same (p ∷ ps) = ap (λ l. line_of p ∷ l) (lines_same ps)

  pub idle_same : (w : ℕ) (ps : List Piece) → is_idle w (map unflagged_piece ps) ≡ is_idle w ps
  idle_same w ps = ap (λ l. strands.is_free l w) (lines_same ps)

  any_of : (Q : Piece → Type 0) → ((p : Piece) → Q p) → (ps : List Piece) → Every Q ps
  any_of Q k [] = tt
  any_of Q k (p ∷ ps) = (k p, any_of Q k ps)

  every_of : (P Q : Piece → Type 0) → ((p : Piece) → P p → Q p) → (ps : List Piece) → Every P ps → Every Q ps
  every_of P Q k [] h = tt
  every_of P Q k (p ∷ ps) h = (k p h.0, every_of P Q k ps h.1)

  module _ (test : TopTest) where
    -- a change that has no use for flags
    changes_quiet : (w : ℕ) (change : Piece → Option Change) → ((p : Piece) → unflagged_change (change p) ≡ change (unflagged_piece p)) → (s : RunState) → unflagged_after (changed w change [] s.pieces s.history) ≡ changed w change [] (map unflagged_piece s.pieces) s.history
    changes_quiet w change h s = unflagged_changed w change change [] s.pieces s.history (any_of (λ p. unflagged_change (change p) ≡ change (unflagged_piece p)) h s.pieces)

    step_quiet : (s : RunState) (e : RunStep) → Every (IsTold test) s.pieces → unflagged_after (after_step program tables memory s e) ≡ step_by program tables memory test (unflagged_run s) e
    step_quiet s (work w) h =
        let works = worked program tables memory s.kits in
        let works' = worked_with program tables memory test s.kits in
        unflagged_changed w works works' [] s.pieces s.history (every_of (IsTold test) (λ p. unflagged_change (works p) ≡ works' (unflagged_piece p)) (works_quiet test s.kits) s.pieces h)
    step_quiet s (push w) h = changes_quiet w (pushed program tables memory s.kits) (λ p. pushes_quiet s.kits p p.strand.phase) s
    step_quiet s (inline w) h = changes_quiet w (inlined_of program tables memory s.kits) (λ p. inlines_quiet s.kits p p.strand.phase) s
    step_quiet s (pop w) h = changes_quiet w (popped program tables memory s.kits) (λ p. pops_quiet s.kits p p.strand.phase p.strand.under p.deque) s
    step_quiet s (stall w) h = changes_quiet w (stalled program tables memory s.kits) (λ p. stalls_at s.kits p p.strand.phase p.strand.under p.deque) s
    step_quiet s (steal t v) h =
        idle_quiet (is_idle t (map unflagged_piece s.pieces)) (is_idle t s.pieces) (changed v (stolen_from program tables memory t s.kits) [] s.pieces s.history) _ (idle_same t s.pieces)
        (changes_quiet v (stolen_from program tables memory t s.kits) (steals_quiet t s.kits) s)
    step_quiet s (fold w q) h =
        idle_quiet (is_idle w (map unflagged_piece s.pieces)) (is_idle w s.pieces) (folded_at program tables memory w q s.kits [] s.pieces s.history) _ (idle_same w s.pieces)
        (folds_quiet w q s.kits [] s.pieces s.history)

    -- ---- whole runs

    or_same_quiet : (s : RunState) (o : Option RunState) → or_same program tables memory (unflagged_run s) (unflagged_after o) ≡ unflagged_run (or_same program tables memory s o)
    or_same_quiet s None = refl
    or_same_quiet s (Some t) = refl

    path_append : (s : RunState) (a b : List RunStep) → path program tables memory s (a ++ b) ≡ path program tables memory (path program tables memory s a) b
    path_append s [] b = refl
    path_append s (e ∷ a) b = path_append (or_same program tables memory s (after_step program tables memory s e)) a b

    module _ (kits : ℕ) (told : (es : List RunStep) → Every (IsTold test) (path program tables memory (first_state program.tree kits) es).pieces) where
      abbrev reached : List RunStep → RunState
      reached es = path program tables memory (first_state program.tree kits) es

      path_from : (es : List RunStep) (s : RunState) (done : List RunStep) → s ≡ reached done → path_by program tables memory test (unflagged_run s) es ≡ unflagged_run (path program tables memory s es)
      path_from [] s done q = refl
      path_from (e ∷ es) s done q =
          let o = after_step program tables memory s e in
          let t = or_same program tables memory s o in
          let next : t ≡ reached (done ++ e ∷ []) = ap (λ x. or_same program tables memory x (after_step program tables memory x e)) q ∙ sym (path_append (first_state program.tree kits) done (e ∷ [])) in
          let here : Every (IsTold test) s.pieces = subst (λ x. Every (IsTold test) x.pieces) (sym q) (told done) in
          let one : or_same program tables memory (unflagged_run s) (step_by program tables memory test (unflagged_run s) e) ≡ unflagged_run t = ap (or_same program tables memory (unflagged_run s)) (sym (step_quiet s e here)) ∙ or_same_quiet s o in
          ap (λ x. path_by program tables memory test x es) one ∙ path_from es t (done ++ e ∷ []) next

      path_same : (es : List RunStep) → path_by program tables memory test (first_state program.tree kits) es ≡ unflagged_run (reached es)
      path_same es = path_from es (first_state program.tree kits) [] refl

    same_answer : (ps : List Piece) → answer_of_pieces (map unflagged_piece ps) ≡ answer_of_pieces ps
    same_answer [] = refl
    same_answer (p ∷ []) = refl
    same_answer (p ∷ q ∷ ps) = refl

    pub runs_by : ((kits : ℕ) (es : List RunStep) → Every (IsTold test) (path program tables memory (first_state program.tree kits) es).pieces) → RunsBy program tables memory test
    runs_by told =
        record {
          steps = λ kits es e. sym (step_quiet (path program tables memory (first_state program.tree kits) es) e (told kits es));
          paths = λ kits es. path_same kits (told kits) es;
          ends = λ kits es. ap end_of (path_same kits (told kits) es) ∙ same_answer (path program tables memory (first_state program.tree kits) es).pieces;
        }
