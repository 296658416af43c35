-- For whom names wait: for children behind which a piece to the left begins, or that a strand with a fault has taken in.
use Rattle.std.proofs.Common.{◌&&◌, ◌⊎◌, ◌++◌, ℕ, List, [], ◌∷◌, ◌≡◌, inl, inr, refl, sym, ◌∙◌, subst, true, false, Bool, nat_lt}
use Rattle.meaning.specs.Tables.{Tables}
use Rattle.meaning.specs.Outcome.{Fault, Place}
use Rattle.meaning.specs.Trail.{child_of}
use Rattle.meaning.specs.Records.{Revised}
use Rattle.meaning.specs.SmallStep.{Slot, has, Start, Frame, Phase, entering, running, spawning, returning, leaving, broken, Parent, child_name, env_of, at_spawn, at_sync, returned, faulted, Step, moved, taken, paused, Continuation}
use Rattle.meaning.specs.Layers.{Notes, total}
use Rattle.meaning.specs.LayeredStrand.{LayeredStrand, advanced, detached, continuation, inlined, resumed}
use Rattle.meaning.specs.Strands.{State}
use Rattle.meaning.specs.Tallies.{Tally}
use Rattle.meaning.specs.Schedules.{Memory, Piece, Change, place_of, place_of_start, step_of, worked_by, worked, pushed_at, inlined_at, popped_at, bottom_alone, left_by, stalled_by, stalled_at}
use Rattle.trail_theory.specs.Order.{LeavesBefore}
use Rattle.trail_theory.proofs.Places.{order_strict}
use Rattle.run_theory.specs.RightRuns.{front}
use Rattle.run_theory.proofs.Pieces.{ForSome}
use Rattle.run_theory.proofs.Lefts.{before_trans}
use Rattle.run_theory.proofs.Ascending.{Order, Gone, Since, Asc, same_front}
use Rattle.run_theory.proofs.Steps.{piece_of, worked_broken}
use Rattle.strand_theory.proofs.Laws.{L}
use Rattle.run_theory.proofs.Telling.{broken_or}
use Rattle.run_theory.proofs.Awaited.{SlotsWait, UnderWait, StackWaits, DequeWaits, into_slot, new_slots, StepWaits, micro_waits}

-- ---- what is known of a child that a name waits for

abbrev pub Own : Bool → Place → Place → Type 0
Own true n c = ⊥
Own false n c = c ≡ n

-- by the pieces to the left, or by this one, which ends at e; G says that it has a fault and no deque
abbrev pub Knows : (Place → Type 0) → Bool → Start → Type 0 → Place → Place → Type 0
Knows Q first m G e c = Q c ⊎ (Own first (place_of_start m) c ⊎ (G × (Since first (place_of_start m) c × LeavesBefore c e)))

abbrev pub Waiting : (Place → Type 0) → Bool → Start → Type 0 → Place → Place → ℕ → Type 0
Waiting Q first m G e n j = Knows Q first m G e (child_of n j) × Order first (place_of_start m) n

abbrev pub PieceWaits : (Place → ℕ → Type 0) → Piece → Type 0
PieceWaits P p = Gone p ⊎ (StackWaits P p.strand.frame p.strand.under × DequeWaits P p.deque)

abbrev pub WaitsFit : (Place → Type 0) → Bool → List Piece → Type 0
WaitsFit Q first [] = Unit {0}
WaitsFit Q first (p ∷ ps) = PieceWaits (Waiting Q first p.strand.start (Gone p) (front ps)) p × WaitsFit (Knows Q first p.strand.start (Gone p) (front ps)) false ps

-- ---- more is known

module _ (P P' : Place → ℕ → Type 0) (k : (n : Place) (j : ℕ) → P n j → P' n j) where
  pub slots_more : (n : Place) (env : List Slot) → SlotsWait P n env → SlotsWait P' n env
  slots_more n [] h = tt
  slots_more n (s ∷ env) h = (λ j e. k n j (h.0 j e), slots_more n env h.1)

  pub under_more : (t : List Parent) → UnderWait P t → UnderWait P' t
  under_more [] h = tt
  under_more (p ∷ t) h = (slots_more p.frame.instance p.frame.env h.0, under_more t h.1)

  pub stack_more : (fr : Frame) (t : List Parent) → StackWaits P fr t → StackWaits P' fr t
  stack_more fr t h = (slots_more fr.instance fr.env h.0, under_more t h.1)

  pub deque_more : (ks : List Continuation) → DequeWaits P ks → DequeWaits P' ks
  deque_more [] h = tt
  deque_more (c ∷ ks) h = (stack_more c.parent.frame c.under h.0, deque_more ks h.1)

  pub piece_more : (p : Piece) → PieceWaits P p → PieceWaits P' p
  piece_more p (inl g) = inl g
  piece_more p (inr h) = inr (stack_more p.strand.frame p.strand.under h.0, deque_more p.deque h.1)

knows_more : (Q Q' : Place → Type 0) (first : Bool) (m : Start) (G : Type 0) (e c : Place) → (Q c → Q' c) → Knows Q first m G e c → Knows Q' first m G e c
knows_more Q Q' first m G e c k (inl q) = inl (k q)
knows_more Q Q' first m G e c k (inr h) = inr h

pub fit_more : (ps : List Piece) (Q Q' : Place → Type 0) (first : Bool) → ((c : Place) → Q c → Q' c) → WaitsFit Q first ps → WaitsFit Q' first ps
fit_more [] Q Q' first k h = tt
fit_more (p ∷ ps) Q Q' first k h =
    let m = p.strand.start in
    let e = front ps in (
      piece_more (Waiting Q first m (Gone p) e) (Waiting Q' first m (Gone p) e) (λ n j w. (knows_more Q Q' first m (Gone p) e (child_of n j) (k (child_of n j)) w.0, w.1)) p h.0,
      fit_more ps (Knows Q first m (Gone p) e) (Knows Q' first m (Gone p) e) false (λ c. knows_more Q Q' first m (Gone p) e c (k c)) h.1,
    )

-- ---- all but one child

child_parent : (n m : Place) (j k : ℕ) → child_of n j ≡ child_of m k → n ≡ m
child_parent [] [] j k e = refl
child_parent [] (b ∷ m) j k e = absurd (no_more m k (let t : [] ≡ m ++ k ∷ [] = cc in t))
  where
    no_more : (m : Place) (k : ℕ) → [] ≡ m ++ k ∷ [] → ⊥
    no_more [] k e = cc
    no_more (b ∷ m) k e = cc
child_parent (a ∷ n) [] j k e = absurd (no_more n j (let t : n ++ j ∷ [] ≡ [] = cc in t))
  where
    no_more : (m : Place) (k : ℕ) → m ++ k ∷ [] ≡ [] → ⊥
    no_more [] k e = cc
    no_more (b ∷ m) k e = cc
child_parent (a ∷ n) (b ∷ m) j k e =
    let h : a ≡ b = cc in
    let t : n ++ j ∷ [] ≡ m ++ k ∷ [] = cc in
    cons_same a b n m h (child_parent n m j k t)
  where
    cons_same : (a b : ℕ) (n m : Place) → a ≡ b → n ≡ m → a ∷ n ≡ b ∷ m
    cons_same a b n m h t = cc

-- at a name or before it
abbrev pub UpTo : Place → Place → Type 0
UpTo m n = (m ≡ n) ⊎ LeavesBefore m n

up_before : (m a b : Place) → UpTo m a → LeavesBefore a b → LeavesBefore m b
up_before m a b (inl e) h = subst (λ w. LeavesBefore w b) (sym e) h
up_before m a b (inr k) h = before_trans m a b k h

pub fit_past : (m : Place) (k : ℕ) (ps : List Piece) (Q Q' : Place → Type 0) → ((c : Place) → (c ≡ child_of m k → ⊥) → Q c → Q' c) → UpTo m (front ps) → Asc false ps → WaitsFit Q false ps → WaitsFit Q' false ps
fit_past m k [] Q Q' q u a h = tt
fit_past m k (p ∷ ps) Q Q' q u a h =
    let s = p.strand.start in
    let e = front ps in (
      piece_more (Waiting Q false s (Gone p) e) (Waiting Q' false s (Gone p) e)
          (λ n j w. (knows_more Q Q' false s (Gone p) e (child_of n j) (q (child_of n j) (λ z. order_strict m (up_before m (place_of p) m u (subst (λ x. LeavesBefore (place_of p) x) (child_parent n m j k z) w.1)))) w.0, w.1)) p h.0,
      fit_past m k ps (Knows Q false s (Gone p) e) (Knows Q' false s (Gone p) e) (λ c d. knows_more Q Q' false s (Gone p) e c (q c d)) (inr (up_before m (place_of p) e u a.1)) a.2 h.1,
    )

-- ---- a place in the list

abbrev pub known_at : (Place → Type 0) → Bool → List Piece → List Piece → Place → Type 0
known_at Q first [] old = Q
known_at Q first (q ∷ before) old = known_at (Knows Q first q.strand.start (Gone q) (front (before ++ old))) false before old

abbrev pub first_at : Bool → List Piece → Bool
first_at first [] = first
first_at first (q ∷ before) = first_at false before

pub fit_at : (before old : List Piece) (Q : Place → Type 0) (first : Bool) → WaitsFit Q first (before ++ old) → WaitsFit (known_at Q first before old) (first_at first before) old
fit_at [] old Q first h = h
fit_at (q ∷ before) old Q first h = fit_at before old (Knows Q first q.strand.start (Gone q) (front (before ++ old))) false h.1

pub asc_at : (before old : List Piece) (first : Bool) → Asc first (before ++ old) → Asc (first_at first before) old
asc_at [] old first h = h
asc_at (q ∷ before) old first h = asc_at before old false h.2

pub fit_put : (before old new : List Piece) (Q : Place → Type 0) (first : Bool) → front new ≡ front old → WaitsFit (known_at Q first before old) (first_at first before) new → WaitsFit Q first (before ++ old) → WaitsFit Q first (before ++ new)
fit_put [] old new Q first e k h = k
fit_put (q ∷ before) old new Q first e k h =
    subst (λ n. PieceWaits (Waiting Q first q.strand.start (Gone q) n) q × WaitsFit (Knows Q first q.strand.start (Gone q) n) false (before ++ new)) (sym (same_front before old new e))
    (h.0, fit_put before old new (Knows Q first q.strand.start (Gone q) (front (before ++ old))) false e k h.1)

-- ---- one piece for another

knows_on : (Q : Place → Type 0) (first : Bool) (m m' : Start) (G G' : Type 0) (e c : Place) → m' ≡ m → (G → G') → Knows Q first m G e c → Knows Q first m' G' e c
knows_on Q first m m' G G' e c q g (inl h) = inl h
knows_on Q first m m' G G' e c q g (inr (inl h)) = inr (inl (subst (λ s. Own first (place_of_start s) c) (sym q) h))
knows_on Q first m m' G G' e c q g (inr (inr h)) = inr (inr (g h.0, (subst (λ s. Since first (place_of_start s) c) (sym q) h.1.0, h.1.1)))

abbrev pub with_strand : Piece → LayeredStrand → List Continuation → Piece
with_strand p s ks = record { strand = s; deque = ks; state = p.state; tally = p.tally }

pub one_waits : (Q : Place → Type 0) (first : Bool) (p : Piece) (s : LayeredStrand) (ks : List Continuation) (ps : List Piece) → s.start ≡ p.strand.start → (Gone p → Gone (with_strand p s ks)) → ((P : Place → ℕ → Type 0) → PieceWaits P p → PieceWaits P (with_strand p s ks)) → WaitsFit Q first (p ∷ ps) → WaitsFit Q first (with_strand p s ks ∷ ps)
one_waits Q first p s ks ps q g k h =
    let p' = with_strand p s ks in
    let m = p.strand.start in
    let m' = p'.strand.start in
    let e = front ps in (
      piece_more (Waiting Q first m (Gone p) e) (Waiting Q first m' (Gone p') e) (λ n j w. (knows_on Q first m m' (Gone p) (Gone p') e (child_of n j) q g w.0, subst (λ s. Order first (place_of_start s) n) (sym q) w.1)) p' (k (Waiting Q first m (Gone p) e) h.0),
      fit_more ps (Knows Q first m (Gone p) e) (Knows Q first m' (Gone p') e) false (λ c. knows_on Q first m m' (Gone p) (Gone p') e c q g) h.1,
    )

abbrev pub NewWaits : (Place → Type 0) → Bool → Piece → List Piece → Change → Type 0
NewWaits Q first p ps c = (front (c.pieces ++ ps) ≡ place_of p) × WaitsFit Q first (c.pieces ++ ps)

module _ (program : Revised) (tables : Tables) (memory : Memory) (Q : Place → Type 0) (first : Bool) where
  -- ---- work

  work_waits : (kits : ℕ) (p : Piece) (ps : List Piece) → ((k : Fault) → p.strand.phase ≡ broken k → ⊥) → (s : Step) → ((P : Place → ℕ → Type 0) → StackWaits P p.strand.frame p.strand.under → StepWaits P s) → WaitsFit Q first (p ∷ ps) → ForSome (NewWaits Q first p ps) (worked_by program tables memory kits p s)
  work_waits kits p ps sound (moved l evs fr ph t) k h = (refl, one_waits Q first p (advanced program.tree p.strand (moved l evs fr ph t)) p.deque ps refl (λ g. absurd (sound g.1.0 g.1.1)) (λ P w. elim w [ inl g ↦ absurd (sound g.1.0 g.1.1) | inr x ↦ inr (k P x.0, x.1) ]) h)
  work_waits kits p ps sound (taken evs r fr ph t) k h = (refl, one_waits Q first p (advanced program.tree p.strand (taken evs r fr ph t)) p.deque ps refl (λ g. absurd (sound g.1.0 g.1.1)) (λ P w. elim w [ inl g ↦ absurd (sound g.1.0 g.1.1) | inr x ↦ inr (k P x.0, x.1) ]) h)
  work_waits kits p ps sound (paused e) k h = tt

  pub works_wait : (kits : ℕ) (p : Piece) (ps : List Piece) → WaitsFit Q first (p ∷ ps) → ForSome (NewWaits Q first p ps) (worked program tables memory kits p)
  works_wait kits p ps h =
      let s = p.strand in
      elim (broken_or p.strand.phase) [
        | inl b ↦ worked_broken program tables memory kits (NewWaits Q first p ps) p b.0 b.1
        | inr sound ↦ work_waits kits p ps sound (step_of program tables memory kits p.strand) (λ P w. micro_waits P program.tree tables (L program tables memory) (memory.recording && nat_lt 0 kits) (total program.tree s.layers).worth s.start s.frame s.phase s.under w) h
      ]

  -- ---- push, inline and pop

  pub pushes_wait : (kits : ℕ) (p : Piece) (ps : List Piece) (ph : Phase) → p.strand.phase ≡ ph → WaitsFit Q first (p ∷ ps) → ForSome (NewWaits Q first p ps) (pushed_at program tables memory kits p ph)
  pushes_wait kits p ps (spawning d x child todo) q h = (
    refl,
    one_waits Q first p (detached program.tree p.strand d child) (continuation p.strand x todo ∷ p.deque) ps refl (λ g. absurd (let z : spawning d x child todo ≡ broken g.1.0 = sym q ∙ g.1.1 in cc))
        (λ P w. elim w [ inl g ↦ absurd (let z : spawning d x child todo ≡ broken g.1.0 = sym q ∙ g.1.1 in cc) | inr y ↦ inr ((new_slots P (child_name p.strand.frame) (env_of program.tree child), tt), (y.0, y.1)) ]) h,
  )
  pushes_wait kits p ps (entering child) q h = tt
  pushes_wait kits p ps (running todo) q h = tt
  pushes_wait kits p ps (returning v) q h = tt
  pushes_wait kits p ps (leaving v) q h = tt
  pushes_wait kits p ps (broken k) q h = tt

  pub inlines_wait : (kits : ℕ) (p : Piece) (ps : List Piece) (ph : Phase) → p.strand.phase ≡ ph → WaitsFit Q first (p ∷ ps) → ForSome (NewWaits Q first p ps) (inlined_at program tables memory kits p ph)
  inlines_wait kits p ps (spawning d x child todo) q h = (
    refl,
    one_waits Q first p (inlined program.tree p.strand d x child todo) p.deque ps refl (λ g. absurd (let z : spawning d x child todo ≡ broken g.1.0 = sym q ∙ g.1.1 in cc))
        (λ P w. elim w [ inl g ↦ absurd (let z : spawning d x child todo ≡ broken g.1.0 = sym q ∙ g.1.1 in cc) | inr y ↦ inr ((new_slots P (child_name p.strand.frame) (env_of program.tree child), y.0), y.1) ]) h,
  )
  inlines_wait kits p ps (entering child) q h = tt
  inlines_wait kits p ps (running todo) q h = tt
  inlines_wait kits p ps (returning v) q h = tt
  inlines_wait kits p ps (leaving v) q h = tt
  inlines_wait kits p ps (broken k) q h = tt

  pub pops_wait : (kits : ℕ) (ps : List Piece) (m : Start) (ls : List Notes) (fr : Frame) (ph : Phase) (t : List Parent) (ks : List Continuation) (st : State) (ta : Tally) → WaitsFit Q first (piece_of m ls fr ph t ks st ta ∷ ps)
      → ForSome (NewWaits Q first (piece_of m ls fr ph t ks st ta) ps) (popped_at program tables memory kits (piece_of m ls fr ph t ks st ta) ph t ks)
  pops_wait kits ps m ls fr (leaving v) [] (k ∷ ks) st ta h = (
    refl,
    one_waits Q first (piece_of m ls fr (leaving v) [] (k ∷ ks) st ta) (resumed program.tree (piece_of m ls fr (leaving v) [] (k ∷ ks) st ta).strand k v) ks ps refl (λ g. absurd (let z : leaving v ≡ broken g.1.0 = g.1.1 in cc))
        (λ P w. elim w [ inl g ↦ absurd (let z : leaving v ≡ broken g.1.0 = g.1.1 in cc) | inr y ↦ inr ((into_slot P k.parent.frame.instance k.parent.frame.env k.parent.into (has v) y.1.0.0 (λ j e. cc), y.1.0.1), y.1.1) ]) h,
  )
  pops_wait kits ps m ls fr (leaving v) [] [] st ta h = tt
  pops_wait kits ps m ls fr (leaving v) (p ∷ t) ks st ta h = tt
  pops_wait kits ps m ls fr (spawning d x child todo) t ks st ta h = tt
  pops_wait kits ps m ls fr (entering child) t ks st ta h = tt
  pops_wait kits ps m ls fr (running todo) t ks st ta h = tt
  pops_wait kits ps m ls fr (returning v) t ks st ta h = tt
  pops_wait kits ps m ls fr (broken k) t ks st ta h = tt

  -- ---- stall

  laid_waits : (p : Piece) (ps : List Piece) → WaitsFit Q first (p ∷ ps) → WaitsFit Q first (with_strand p p.strand [] ∷ ps)
  laid_waits p ps h = one_waits Q first p p.strand [] ps refl (λ g. (refl, g.1)) (λ P w. elim w [ inl g ↦ inl (refl, g.1) | inr y ↦ inr (y.0, tt) ]) h

  left_wait : (kits : ℕ) (p : Piece) (ps : List Piece) (n : Place) → WaitsFit Q first (p ∷ ps) → ForSome (NewWaits Q first p ps) (left_by program tables memory kits p n)
  left_wait kits p ps [] h = (refl, laid_waits p ps h)
  left_wait kits p ps (a ∷ n) h = (refl, laid_waits p ps h)

  sync_wait : (kits : ℕ) (p : Piece) (ps : List Piece) (s : Step) → WaitsFit Q first (p ∷ ps) → ForSome (NewWaits Q first p ps) (stalled_by program tables memory kits p s)
  sync_wait kits p ps (paused at_sync) h = (refl, laid_waits p ps h)
  sync_wait kits p ps (paused at_spawn) h = tt
  sync_wait kits p ps (paused returned) h = tt
  sync_wait kits p ps (paused faulted) h = tt
  sync_wait kits p ps (moved l evs fr ph t) h = tt
  sync_wait kits p ps (taken evs k fr ph t) h = tt

  pub stalls_wait : (kits : ℕ) (p : Piece) (ps : List Piece) (ph : Phase) (t : List Parent) (ks : List Continuation) → WaitsFit Q first (p ∷ ps) → ForSome (NewWaits Q first p ps) (stalled_at program tables memory kits p ph t ks)
  stalls_wait kits p ps (broken k) t ks h = (refl, one_waits Q first p (record { start = p.strand.start; layers = bottom_alone program tables memory p.strand.layers; frame = p.strand.frame; phase = broken k; under = p.strand.under }) [] ps refl (λ g. (refl, (k, refl))) (λ P w. inl (refl, (k, refl))) h)
  stalls_wait kits p ps (leaving v) [] [] h = left_wait kits p ps p.strand.frame.instance h
  stalls_wait kits p ps (leaving v) [] (k ∷ ks) h = tt
  stalls_wait kits p ps (leaving v) (r ∷ t) [] h = sync_wait kits p ps (step_of program tables memory kits p.strand) h
  stalls_wait kits p ps (leaving v) (r ∷ t) (k ∷ ks) h = tt
  stalls_wait kits p ps (entering child) t [] h = sync_wait kits p ps (step_of program tables memory kits p.strand) h
  stalls_wait kits p ps (entering child) t (k ∷ ks) h = tt
  stalls_wait kits p ps (running todo) t [] h = sync_wait kits p ps (step_of program tables memory kits p.strand) h
  stalls_wait kits p ps (running todo) t (k ∷ ks) h = tt
  stalls_wait kits p ps (spawning d x child todo) t [] h = sync_wait kits p ps (step_of program tables memory kits p.strand) h
  stalls_wait kits p ps (spawning d x child todo) t (k ∷ ks) h = tt
  stalls_wait kits p ps (returning v) t [] h = sync_wait kits p ps (step_of program tables memory kits p.strand) h
  stalls_wait kits p ps (returning v) t (k ∷ ks) h = tt
