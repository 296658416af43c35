-- What each step tells the book, and where the places that were split off lie then.
use Rattle.std.proofs.Common.{◌&&◌, ◌⊎◌, ◌++◌, append_assoc, append-nil, zero, ◌≤◌, ℕ, suc, ℤ, List, [], ◌∷◌, length, Option, ◌≡◌, inl, inr, refl, sym, ap, ◌∙◌, subst, true, false, Bool, nat_lt}
use Rattle.meaning.specs.Tables.{Tables}
use Rattle.meaning.specs.Outcome.{Fault, Place}
use Rattle.meaning.specs.Trail.{child_of}
use Rattle.meaning.specs.Records.{Revised}
use Rattle.meaning.specs.SmallStep.{Start, root, behind, is_entry, Frame, Phase, entering, running, spawning, returning, leaving, broken, Parent, at_spawn, at_sync, returned, faulted, Step, moved, taken, paused, Continuation, place_of_continuation}
use Rattle.meaning.specs.Layers.{Notes}
use Rattle.meaning.specs.Strands.{State, Held, Ended, Stalled, holds_by, BookStep, Split, End, Stall, Finish}
use Rattle.meaning.specs.Strands as strands
use Rattle.meaning.specs.RestOfRun.{lowest}
use Rattle.meaning.specs.LayeredStrand.{stolen}
use Rattle.meaning.specs.Tallies.{Tally, no_tally}
use Rattle.meaning.specs.Schedules.{Memory, Piece, Change, place_of, place_of_start, step_of, worked_by, worked, pushed_at, pushed, inlined_at, inlined_of, popped_at, popped, robbed, robbed_of, stolen_from, left_by, stalled_by, stalled_at, stalled}
use Rattle.run_theory.specs.RightRuns.{front, Begins, Links}
use Rattle.run_theory.proofs.Flags.{Shifts, left_parent}
use Rattle.run_theory.proofs.Pieces.{ForSome}
use Rattle.run_theory.proofs.Steps.{piece_of, FitPiece, FitAll, Whole, Pushed, shifts_of, worked_broken}
use Rattle.trail_theory.specs.Order.{LeavesBefore}
use Rattle.trail_theory.specs.TaskFits.{Higher, Spot, Stacked}
use Rattle.trail_theory.proofs.Places.{no_end, child_above, order_later, order_inner}
use Rattle.run_theory.proofs.Lefts.{LeftOf, point, left_longer, left_sibling, left_prefix, left_before}
use Rattle.run_theory.proofs.Ascending.{Order, Since, UsedIn, not_root}
use Rattle.run_theory.proofs.Steals.{links_split, none_last, pushed_split}

-- another piece at the same place
pub record Quiet (p p' : Piece) (e : Place) : Type 0 where
  pub start : p'.strand.start ≡ p.strand.start
  pub covers : (first : Bool) (u : Place) → UsedIn first p e u → UsedIn first p' e u

pub data Lays (p : Piece) (ps : List Piece) : State → BookStep → Type 0 where
  ends : Lays p ps Ended (End (place_of p))
  stalls : (place_of p ≡ [] → ⊥) → Lays p ps Stalled (Stall (place_of p))
  faults : Lays p ps strands.Faulted (strands.Fault (place_of p))
  finishes : place_of p ≡ [] → ps ≡ [] → Lays p ps strands.Finished (Finish (place_of p))

pub record Splits (p p1 p2 : Piece) (e : Place) (t : ℕ) : Type 0 where
  pub start : p1.strand.start ≡ p.strand.start
  pub state : p1.state ≡ p.state
  pub covers : (first : Bool) (u : Place) → UsedIn first p e u → UsedIn first p1 (place_of p2) u
  pub begins : Begins false p2.strand.start
  pub held : p2.state ≡ Held t
  pub order : (first : Bool) → Begins first p.strand.start → Order first (place_of p) (place_of p2)
  pub later : LeavesBefore (place_of p2) e
  pub used : UsedIn false p2 e (place_of p2)
  pub fresh : (first : Bool) (u : Place) → UsedIn first p e u → u ≡ place_of p2 → ⊥

-- F says that the thief is idle
pub data Tells (t : ℕ) (F : Type 0) (p : Piece) (ps : List Piece) : Change → Type 0 where
  quiet : {p' : Piece} {kits : ℕ} → Quiet p p' (front ps) → p'.state ≡ p.state → Tells t F p ps (record { pieces = p' ∷ []; kits = kits; noted = [] })
  laid : {p' : Piece} {kits : ℕ} {step : BookStep} → Quiet p p' (front ps) → Lays p ps p'.state step → Tells t F p ps (record { pieces = p' ∷ []; kits = kits; noted = step ∷ [] })
  split : {p1 p2 : Piece} {kits : ℕ} → F → Splits p p1 p2 (front ps) t → Tells t F p ps (record { pieces = p1 ∷ p2 ∷ []; kits = kits; noted = Split (place_of p) (place_of p2) t ∷ [] })

-- a phase with a fault or without
pub broken_or : (ph : Phase) → ((k : Fault) × (ph ≡ broken k)) ⊎ ((k : Fault) → ph ≡ broken k → ⊥)
broken_or (broken k) = inl (k, refl)
broken_or (entering child) = inr (λ k e. cc)
broken_or (running todo) = inr (λ k e. cc)
broken_or (spawning d x child todo) = inr (λ k e. cc)
broken_or (returning v) = inr (λ k e. cc)
broken_or (leaving v) = inr (λ k e. cc)

-- ---- names above names

pub record Extends (n m : Place) : Type 0 where
  pub path : Place
  pub is : m ≡ n ++ path

pub extends_child : (n m : Place) (c : ℕ) → Extends n m → Extends n (child_of m c)
extends_child n m c h = record { path = h.path ++ c ∷ []; is = ap (λ w. w ++ c ∷ []) h.is ∙ append_assoc n h.path (c ∷ []) }

pub stacked_extends : (fr : Frame) (t : List Parent) → Stacked fr.instance t → Extends (lowest fr t) fr.instance
stacked_extends fr [] h = record { path = []; is = sym (append-nil fr.instance) }
stacked_extends fr (p ∷ t) h =
    let r = extends_child (lowest p.frame t) p.frame.instance h.0.number (stacked_extends p.frame t h.1) in
    record { path = r.path; is = h.0.is ∙ r.is }

pub inner_before : (e path : Place) (c : ℕ) → LeavesBefore (e ++ (path ++ c ∷ [])) e
inner_before e [] c = order_inner e c []
inner_before e (a ∷ path) c = order_inner e a (path ++ c ∷ [])

same_extends : (n m l : Place) → m ≡ l → Extends n l → Extends n m
same_extends n m l e h = record { path = h.path; is = e ∙ h.is }

module _ (program : Revised) (tables : Tables) (memory : Memory) where
  abbrev pub TellsAll : ℕ → ℕ → Type 0 → (Piece → Option Change) → Type 0
  TellsAll w t F change = (first : Bool) (found later : List Bool) (p : Piece) (ps : List Piece) → holds_by w p.state ≡ true → FitPiece program tables memory first p found later (front ps) → FitAll program tables memory false ps later → ForSome (Tells t F p ps) (change p)

  links_extends : (m : Start) (ks : List Continuation) (n e : Place) → Links n ks e → Pushed program tables memory m ks → Extends e n
  links_extends m [] n e h q = record { path = []; is = h ∙ sym (append-nil e) }
  links_extends m (k ∷ ks) n e h q =
      let fr = k.parent.frame in
      let a = stacked_extends fr k.under q.0.1.stacked in
      let b = links_extends m ks (lowest fr k.under) e h.1 q.1 in
      let c : Extends e fr.instance = record { path = b.path ++ a.path; is = a.is ∙ ap (λ w. w ++ a.path) b.is ∙ append_assoc e b.path a.path } in
      same_extends e n (child_of fr.instance k.child) h.0 (extends_child e fr.instance k.child c)

  -- ---- work

  move_covers : (p p' : Piece) (e : Place) → p'.strand.start ≡ p.strand.start → ((k : Fault) → p.strand.phase ≡ broken k → ⊥) → ((u : Place) → LeftOf u (point p.strand.frame) → LeftOf u (point p'.strand.frame)) → Quiet p p' e
  move_covers p p' e m sound on =
      record {
        start = m;
        covers = λ first u h. record {
          since = subst (λ w. Since first (place_of_start w) u) (sym m) h.since;
          until = h.until;
          left = elim h.left [ inl g ↦ absurd (sound g.1.0 g.1.1) | inr l ↦ inr (on u l) ];
        };
      }

  work_tells : (kits t : ℕ) (F : Type 0) (p : Piece) (ps : List Piece) (R : Type 0) → ((k : Fault) → p.strand.phase ≡ broken k → ⊥) → (s : Step) → Shifts p.strand.start (memory.recording && nat_lt 0 kits) R p.strand.frame p.strand.under s → ForSome (Tells t F p ps) (worked_by program tables memory kits p s)
  work_tells kits t F p ps R sound (moved l evs fr ph under) s =
      quiet (move_covers p _ (front ps) refl sound s.onward) refl
  work_tells kits t F p ps R sound (taken evs k fr ph under) s =
      quiet (move_covers p _ (front ps) refl sound s.onward) refl
  work_tells kits t F p ps R sound (paused e) s = tt

  pub works_tell : (kits w t : ℕ) (F : Type 0) → TellsAll w t F (worked program tables memory kits)
  works_tell kits w t F first found later p ps held i rest =
      elim (broken_or p.strand.phase) [
        | inl b ↦ worked_broken program tables memory kits (Tells t F p ps) p b.0 b.1
        | inr sound ↦ elim i.fits [
          | inr c ↦ absurd (sound c.fault c.phase)
          | inl h ↦ work_tells kits t F p ps (length (place_of p) ≤ length p.strand.frame.instance) sound (step_of program tables memory kits p.strand) (shifts_of program tables memory kits p found later (front ps) h)
        ]
      ]

  -- ---- push, inline and pop

  push_tells : (kits t : ℕ) (F : Type 0) (p : Piece) (ps : List Piece) (ph : Phase) → p.strand.phase ≡ ph → ForSome (Tells t F p ps) (pushed_at program tables memory kits p ph)
  push_tells kits t F p ps (spawning d x child todo) q = quiet (move_covers p _ (front ps) refl (λ k e. let z : spawning d x child todo ≡ broken k = sym q ∙ e in cc) (λ u l. left_longer u (point p.strand.frame) (1 ∷ []) l)) refl
  push_tells kits t F p ps (entering child) q = tt
  push_tells kits t F p ps (running todo) q = tt
  push_tells kits t F p ps (returning v) q = tt
  push_tells kits t F p ps (leaving v) q = tt
  push_tells kits t F p ps (broken k) q = tt

  inline_tells : (kits t : ℕ) (F : Type 0) (p : Piece) (ps : List Piece) (ph : Phase) → p.strand.phase ≡ ph → ForSome (Tells t F p ps) (inlined_at program tables memory kits p ph)
  inline_tells kits t F p ps (spawning d x child todo) q = quiet (move_covers p _ (front ps) refl (λ k e. let z : spawning d x child todo ≡ broken k = sym q ∙ e in cc) (λ u l. left_longer u (point p.strand.frame) (1 ∷ []) l)) refl
  inline_tells kits t F p ps (entering child) q = tt
  inline_tells kits t F p ps (running todo) q = tt
  inline_tells kits t F p ps (returning v) q = tt
  inline_tells kits t F p ps (leaving v) q = tt
  inline_tells kits t F p ps (broken k) q = tt

  pub pushes_tell : (kits w t : ℕ) (F : Type 0) → TellsAll w t F (pushed program tables memory kits)
  pushes_tell kits w t F first found later p ps held i rest = push_tells kits t F p ps p.strand.phase refl

  pub inlines_tell : (kits w t : ℕ) (F : Type 0) → TellsAll w t F (inlined_of program tables memory kits)
  inlines_tell kits w t F first found later p ps held i rest = inline_tells kits t F p ps p.strand.phase refl

  pop_whole : (kits t : ℕ) (F : Type 0) (first : Bool) (found later : List Bool) (ps : List Piece) (m : Start) (ls : List Notes) (fr : Frame) (v : ℤ) (k : Continuation) (ks : List Continuation) (st : State) (ta : Tally)
      → FitPiece program tables memory first (piece_of m ls fr (leaving v) [] (k ∷ ks) st ta) found later (front ps) → Whole program tables memory (piece_of m ls fr (leaving v) [] (k ∷ ks) st ta) found later (front ps)
      → ForSome (Tells t F (piece_of m ls fr (leaving v) [] (k ∷ ks) st ta) ps) (popped_at program tables memory kits (piece_of m ls fr (leaving v) [] (k ∷ ks) st ta) (leaving v) [] (k ∷ ks))
  pop_whole kits t F first found later ps m ls fr v k ks st ta i h =
      quiet (move_covers (piece_of m ls fr (leaving v) [] (k ∷ ks) st ta) _ (front ps) refl (λ j e. cc) (left_parent fr k.parent (record { number = k.child; is = h.links.0; counted = i.deque.0.1.counted }))) refl

  pop_tells : (kits t : ℕ) (F : Type 0) (first : Bool) (found later : List Bool) (ps : List Piece) (m : Start) (ls : List Notes) (fr : Frame) (ph : Phase) (under : List Parent) (ks : List Continuation) (st : State) (ta : Tally)
      → FitPiece program tables memory first (piece_of m ls fr ph under ks st ta) found later (front ps) → ForSome (Tells t F (piece_of m ls fr ph under ks st ta) ps) (popped_at program tables memory kits (piece_of m ls fr ph under ks st ta) ph under ks)
  pop_tells kits t F first found later ps m ls fr (leaving v) [] (k ∷ ks) st ta i =
      elim i.fits [ inl h ↦ pop_whole kits t F first found later ps m ls fr v k ks st ta i h | inr c ↦ absurd (let e : leaving v ≡ broken c.fault = c.phase in cc) ]
  pop_tells kits t F first found later ps m ls fr (leaving v) [] [] st ta i = tt
  pop_tells kits t F first found later ps m ls fr (leaving v) (p ∷ under) ks st ta i = tt
  pop_tells kits t F first found later ps m ls fr (spawning d x child todo) under ks st ta i = tt
  pop_tells kits t F first found later ps m ls fr (entering child) under ks st ta i = tt
  pop_tells kits t F first found later ps m ls fr (running todo) under ks st ta i = tt
  pop_tells kits t F first found later ps m ls fr (returning v) under ks st ta i = tt
  pop_tells kits t F first found later ps m ls fr (broken k) under ks st ta i = tt

  pub pops_tell : (kits w t : ℕ) (F : Type 0) → TellsAll w t F (popped program tables memory kits)
  pops_tell kits w t F first found later p ps held i rest =
      pop_tells kits t F first found later ps p.strand.start p.strand.layers p.strand.frame p.strand.phase p.strand.under p.deque p.state p.tally i

  -- ---- steal

  steal_order : (m : Start) (k : Continuation) → Spot m k.parent.frame.instance k.child → (first : Bool) → Begins first m → Order first (place_of_start m) (place_of_continuation k)
  steal_order m k h true b = tt
  steal_order root k h false b = absurd b
  steal_order (behind m c) k h false b =
      let a = child_above (behind m c) k.parent.frame.instance k.child h in
      subst (λ w. LeavesBefore (child_of m c) w) (sym a.is) (order_later m c a.child [] a.path a.later)

  steal_tells : (thief kits : ℕ) (F : Type 0) (f : F) (found later : List Bool) (p : Piece) (ps : List Piece) (younger : List Continuation) (k : Continuation) → Whole program tables memory p found later (front ps) → Pushed program tables memory p.strand.start p.deque → p.deque ≡ younger ++ k ∷ []
      → ForSome (Tells thief F p ps) (robbed program tables memory thief kits p younger k)
  steal_tells thief kits F f found later p ps younger k h pushes q =
      let e = front ps in
      let fr = p.strand.frame in
      let low = lowest fr p.strand.under in
      let n = place_of_continuation k in
      let r = links_split younger low k e (subst (λ ks. Links low ks e) q h.links) in
      let c = pushed_split program tables memory p.strand.start younger k (subst (λ ks. Pushed program tables memory p.strand.start ks) q pushes) in
      let a = links_extends p.strand.start younger low n r.0 c.0 in
      let b = stacked_extends fr p.strand.under h.right.task.stacked in
      let path = a.path ++ (b.path ++ fr.next ∷ []) in
      let above : point fr ≡ n ++ path = ap (λ w. w ++ fr.next ∷ []) (b.is ∙ ap (λ w. w ++ b.path) a.is) ∙ append_assoc (n ++ a.path) b.path (fr.next ∷ []) ∙ append_assoc n a.path (b.path ++ fr.next ∷ []) in
      let d = stacked_extends k.parent.frame k.under c.1.1.stacked in
      let last : n ≡ e ++ (d.path ++ k.child ∷ []) = ap (λ w. w ++ k.child ∷ []) (d.is ∙ ap (λ w. w ++ d.path) r.1) ∙ append_assoc e d.path (k.child ∷ []) in
      let later_is : LeavesBefore n e = subst (λ w. LeavesBefore w e) (sym last) (inner_before e d.path k.child) in
      let p1 : Piece = record { strand = p.strand; deque = younger; state = p.state; tally = p.tally } in
      let p2 : Piece = record { strand = stolen program.tree k; deque = []; state = Held thief; tally = no_tally } in
      split {p1 = p1} {p2 = p2} f (record {
        start = refl;
        state = refl;
        covers = λ first u g. record {
          since = g.since;
          until = elim g.left [ inl x ↦ absurd (none_last younger k (sym q ∙ x.0)) | inr l ↦ left_before u n path (subst (LeftOf u) above l) ];
          left = elim g.left [ inl x ↦ absurd (none_last younger k (sym q ∙ x.0)) | inr l ↦ inr l ];
        };
        begins = tt;
        held = refl;
        order = steal_order p.strand.start k (subst (λ m. Spot m k.parent.frame.instance k.child) c.1.0 c.1.1.spot);
        later = later_is;
        used = record { since = inl refl; until = later_is; left = inr (left_sibling k.parent.frame.instance k.child k.parent.frame.next [] c.1.1.counted) };
        fresh = λ first u g z. elim g.left [ inl x ↦ none_last younger k (sym q ∙ x.0) | inr l ↦ left_prefix n path (subst (λ w. LeftOf w (n ++ path)) z (subst (LeftOf u) above l)) ];
      })

  rob_tells : (thief kits : ℕ) (F : Type 0) (f : F) (first : Bool) (found later : List Bool) (p : Piece) (ps : List Piece) → FitPiece program tables memory first p found later (front ps) → (younger older : List Continuation) → p.deque ≡ younger ++ older
      → ForSome (Tells thief F p ps) (robbed_of program tables memory thief kits p younger older)
  rob_tells thief kits F f first found later p ps i younger [] q = tt
  rob_tells thief kits F f first found later p ps i younger (k ∷ []) q =
      elim i.fits [ inl h ↦ steal_tells thief kits F f found later p ps younger k h i.deque q | inr c ↦ absurd (none_last younger k (sym q ∙ c.deque)) ]
  rob_tells thief kits F f first found later p ps i younger (k ∷ j ∷ ks) q = rob_tells thief kits F f first found later p ps i (younger ++ k ∷ []) (j ∷ ks) (q ∙ sym (append_assoc younger (k ∷ []) (j ∷ ks)))

  pub steals_tell : (thief v kits : ℕ) (F : Type 0) (f : F) → TellsAll v thief F (stolen_from program tables memory thief kits)
  steals_tell thief v zero F f first found later p ps held i rest = tt
  steals_tell thief v (suc kits) F f first found later p ps held i rest = rob_tells thief kits F f first found later p ps i [] p.deque refl

  -- ---- stall

  laid_covers : (p p' : Piece) (e : Place) → p'.strand ≡ p.strand → p'.deque ≡ [] → Quiet p p' e
  laid_covers p p' e s d =
      record {
        start = ap (λ x. x.start) s;
        covers = λ first u h. record {
          since = subst (λ x. Since first (place_of_start x.start) u) (sym s) h.since;
          until = h.until;
          left = elim h.left [ inl g ↦ inl (d, (g.1.0, ap (λ x. x.phase) s ∙ g.1.1)) | inr l ↦ inr (subst (λ x. LeftOf u (point x.frame)) (sym s) l) ];
        };
      }

  pub at_root : (m : Start) (n : Place) → Higher m n → n ≡ [] → place_of_start m ≡ []
  at_root root n h e = refl
  at_root (behind m k) n h e = absurd (no_end m h.child h.path (sym e ∙ h.is))

  entry_not_root : (m : Start) (n : Place) → is_entry m n ≡ true → place_of_start m ≡ [] → ⊥
  entry_not_root root n h e = cc
  entry_not_root (behind m k) n h e = no_end m k [] (sym e)

  pub is_last : (later : List Bool) (ps : List Piece) → FitAll program tables memory false ps later → front ps ≡ [] → ps ≡ []
  is_last later [] h e = refl
  is_last later (p ∷ ps) h e = absurd (not_root p.strand.start h.1.begins e)

  left_tells : (kits t : ℕ) (F : Type 0) (found later : List Bool) (ps : List Piece) (m : Start) (ls : List Notes) (fr : Frame) (v : ℤ) (st : State) (ta : Tally)
      → Whole program tables memory (piece_of m ls fr (leaving v) [] [] st ta) found later (front ps) → FitAll program tables memory false ps later → (n : Place) → fr.instance ≡ n
      → ForSome (Tells t F (piece_of m ls fr (leaving v) [] [] st ta) ps) (left_by program tables memory kits (piece_of m ls fr (leaving v) [] [] st ta) n)
  left_tells kits t F found later ps m ls fr v st ta h rest [] e =
      laid (laid_covers (piece_of m ls fr (leaving v) [] [] st ta) _ (front ps) refl refl) (finishes (at_root m fr.instance h.right.task.fringe e) (is_last later ps rest (sym h.links ∙ e)))
  left_tells kits t F found later ps m ls fr v st ta h rest (a ∷ n) e = laid (laid_covers (piece_of m ls fr (leaving v) [] [] st ta) _ (front ps) refl refl) ends

  sync_tells : (kits t : ℕ) (F : Type 0) (p : Piece) (ps : List Piece) (R : Type 0) (s : Step) → Shifts p.strand.start (memory.recording && nat_lt 0 kits) R p.strand.frame p.strand.under s → ForSome (Tells t F p ps) (stalled_by program tables memory kits p s)
  sync_tells kits t F p ps R (paused at_sync) s = laid (laid_covers p _ (front ps) refl refl) (stalls (entry_not_root p.strand.start p.strand.frame.instance s))
  sync_tells kits t F p ps R (paused at_spawn) s = tt
  sync_tells kits t F p ps R (paused returned) s = tt
  sync_tells kits t F p ps R (paused faulted) s = tt
  sync_tells kits t F p ps R (moved l evs fr ph under) s = tt
  sync_tells kits t F p ps R (taken evs k fr ph under) s = tt

  sync_or_tells : (kits t : ℕ) (F : Type 0) (first : Bool) (found later : List Bool) (p : Piece) (ps : List Piece) → ((k : Fault) → p.strand.phase ≡ broken k → ⊥) → FitPiece program tables memory first p found later (front ps)
      → ForSome (Tells t F p ps) (stalled_by program tables memory kits p (step_of program tables memory kits p.strand))
  sync_or_tells kits t F first found later p ps sound i =
      elim i.fits [
        | inl h ↦ sync_tells kits t F p ps (length (place_of p) ≤ length p.strand.frame.instance) (step_of program tables memory kits p.strand) (shifts_of program tables memory kits p found later (front ps) h)
        | inr c ↦ absurd (sound c.fault c.phase)
      ]

  stall_tells : (kits t : ℕ) (F : Type 0) (first : Bool) (found later : List Bool) (ps : List Piece) (m : Start) (ls : List Notes) (fr : Frame) (ph : Phase) (under : List Parent) (ks : List Continuation) (st : State) (ta : Tally)
      → FitPiece program tables memory first (piece_of m ls fr ph under ks st ta) found later (front ps) → FitAll program tables memory false ps later
      → ForSome (Tells t F (piece_of m ls fr ph under ks st ta) ps) (stalled_at program tables memory kits (piece_of m ls fr ph under ks st ta) ph under ks)
  stall_tells kits t F first found later ps m ls fr (broken k) under ks st ta i rest =
      laid (record { start = refl; covers = λ b u h. record { since = h.since; until = h.until; left = inl (refl, (k, refl)) } }) faults
  stall_tells kits t F first found later ps m ls fr (leaving v) [] [] st ta i rest =
      elim i.fits [ inl h ↦ left_tells kits t F found later ps m ls fr v st ta h rest fr.instance refl | inr c ↦ absurd (let e : leaving v ≡ broken c.fault = c.phase in cc) ]
  stall_tells kits t F first found later ps m ls fr (leaving v) [] (k ∷ ks) st ta i rest = tt
  stall_tells kits t F first found later ps m ls fr (leaving v) (p ∷ under) [] st ta i rest = sync_or_tells kits t F first found later (piece_of m ls fr (leaving v) (p ∷ under) [] st ta) ps (λ k e. cc) i
  stall_tells kits t F first found later ps m ls fr (leaving v) (p ∷ under) (k ∷ ks) st ta i rest = tt
  stall_tells kits t F first found later ps m ls fr (entering child) under [] st ta i rest = sync_or_tells kits t F first found later (piece_of m ls fr (entering child) under [] st ta) ps (λ k e. cc) i
  stall_tells kits t F first found later ps m ls fr (entering child) under (k ∷ ks) st ta i rest = tt
  stall_tells kits t F first found later ps m ls fr (running todo) under [] st ta i rest = sync_or_tells kits t F first found later (piece_of m ls fr (running todo) under [] st ta) ps (λ k e. cc) i
  stall_tells kits t F first found later ps m ls fr (running todo) under (k ∷ ks) st ta i rest = tt
  stall_tells kits t F first found later ps m ls fr (spawning d x child todo) under [] st ta i rest = sync_or_tells kits t F first found later (piece_of m ls fr (spawning d x child todo) under [] st ta) ps (λ k e. cc) i
  stall_tells kits t F first found later ps m ls fr (spawning d x child todo) under (k ∷ ks) st ta i rest = tt
  stall_tells kits t F first found later ps m ls fr (returning v) under [] st ta i rest = sync_or_tells kits t F first found later (piece_of m ls fr (returning v) under [] st ta) ps (λ k e. cc) i
  stall_tells kits t F first found later ps m ls fr (returning v) under (k ∷ ks) st ta i rest = tt

  pub stalls_tell : (kits w t : ℕ) (F : Type 0) → TellsAll w t F (stalled program tables memory kits)
  stalls_tell kits w t F first found later p ps held i rest =
      stall_tells kits t F first found later ps p.strand.start p.strand.layers p.strand.frame p.strand.phase p.strand.under p.deque p.state p.tally i rest
