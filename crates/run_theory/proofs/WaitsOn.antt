-- Steals and folds, and whole runs, keep what is known of the children that names wait for.
use Rattle.std.proofs.Common.{◌++◌, append_assoc, append-nil, zero, ℕ, suc, ℤ, List, [], ◌∷◌, map, Option, Some, None, ◌≡◌, inl, inr, refl, sym, ap, ◌∙◌, subst, true, false, Bool, cond, ◌&&◌}
use Rattle.meaning.specs.Tables.{Tables}
use Rattle.meaning.specs.Outcome.{Fault, Place}
use Rattle.meaning.specs.Trail.{child_of}
use Rattle.meaning.specs.Records.{Revised}
use Rattle.meaning.specs.SmallStep.{instance, Slot, unset, waits, has, Start, root, behind, same_name, is_entry, Phase, entering, running, spawning, returning, leaving, broken, Parent, env_of, Continuation, place_of_continuation}
use Rattle.meaning.specs.LayeredStrand.{first_layered, stolen, settle_slot, settled_under, joined}
use Rattle.meaning.specs.Elision.{main}
use Rattle.meaning.specs.RestOfRun.{lowest}
use Rattle.meaning.specs.Strands.{State, Held, BookStep, Fold}
use Rattle.meaning.specs.Strands as strands
use Rattle.meaning.specs.Tallies.{no_tally}
use Rattle.meaning.specs.Schedules.{Memory, Piece, RunState, Change, place_of, place_of_start, is_held_by, among, changed, worked, pushed, inlined_of, popped, robbed, robbed_of, stolen_from, stalled}
use Rattle.trail_theory.specs.Order.{LeavesBefore}
use Rattle.trail_theory.specs.TaskFits.{Stacked}
use Rattle.trail_theory.proofs.Places.{order_inner}
use Rattle.run_theory.specs.RightRuns.{front, Begins, Links}
use Rattle.run_theory.proofs.Pieces.{ForSome, either}
use Rattle.run_theory.proofs.Lefts.{before_trans}
use Rattle.run_theory.proofs.Ascending.{Gone, Asc}
use Rattle.run_theory.proofs.Steps.{FitPiece, FitAll, Whole, Pushed}
use Rattle.run_theory.proofs.Telling.{Extends, stacked_extends}
use Rattle.run_theory.proofs.Steals.{none_last, pushed_split}
use Rattle.run_theory.proofs.Awaited.{SlotsWait, UnderWait, StackWaits, DequeWaits, into_slot, new_slots}
use Rattle.trail_theory.proofs.Places.{same_name_refl}
use Rattle.strand_theory.specs.Ready.{IsReady}
use Rattle.run_theory.specs.Theorems.{IsRightNow}
use Rattle.meaning.specs.Schedules.{RunStep, work, push, inline, pop, stall, steal, fold, first_state, is_idle, folded_by, folded, folded_among, folded_at, joined_pair, broken_pair, may_join, after_step, or_same, path}
use Rattle.strand_theory.proofs.Names.{both_are, same_name_true}
use Rattle.run_theory.proofs.Telling.{inner_before}
use Rattle.run_theory.proofs.Unions.{since_on, order_on}
use Rattle.run_theory.proofs.Folds.{stalled_of}
use Rattle.run_theory.proofs.Kits.{inner}
use Rattle.run_theory.proofs.Paths.{idle, kept_or, step_right, begins_right}
use Rattle.run_theory.proofs.Histories.{ToldOf}
use Rattle.run_theory.proofs.Legal.{step_told, begins_told}
use Rattle.run_theory.proofs.Waits.{Knows, Waiting, WaitsFit, stack_more, deque_more, fit_more, UpTo, fit_past, known_at, first_at, fit_at, asc_at, fit_put, with_strand, NewWaits, works_wait, pushes_wait, inlines_wait, pops_wait, stalls_wait}

-- ---- a steal

extends_trans : (a b c : Place) → Extends a b → Extends b c → Extends a c
extends_trans a b c h k = record { path = h.path ++ k.path; is = k.is ∙ ap (λ w. w ++ k.path) h.is ∙ append_assoc a h.path k.path }

-- one instance's slots
narrowed : (P P' : Place → ℕ → Type 0) (n : Place) (env : List Slot) → ((j : ℕ) → P n j → P' n j) → SlotsWait P n env → SlotsWait P' n env
narrowed P P' n [] k h = tt
narrowed P P' n (s ∷ env) k h = (λ j e. k j (h.0 j e), narrowed P P' n env k h.1)

-- below the topmost instance all names are above
under_below : (P P' : Place → ℕ → Type 0) (top : Place) → ((n : Place) (j : ℕ) → Extends n top → P n j → P' n j) → (n : Place) (t : List Parent) → Extends n top → Stacked n t → UnderWait P t → UnderWait P' t
under_below P P' top k n [] x s h = tt
under_below P P' top k n (p ∷ t) x s h =
    let y : Extends p.frame.instance top = extends_trans p.frame.instance n top (record { path = s.0.number ∷ []; is = s.0.is }) x in
    (narrowed P P' p.frame.instance p.frame.env (λ j w. k p.frame.instance j y w) h.0, under_below P P' top k p.frame.instance t y s.1 h.1)

deque_split : (P : Place → ℕ → Type 0) (younger : List Continuation) (k : Continuation) → DequeWaits P (younger ++ k ∷ []) → DequeWaits P younger × StackWaits P k.parent.frame k.under
deque_split P [] k h = (tt, h.0)
deque_split P (y ∷ ys) k h = let r = deque_split P ys k h.1 in ((h.0, r.0), r.1)

before_child : (n m : Place) (c : ℕ) → Extends n m → LeavesBefore (child_of m c) n
before_child n m c h = subst (λ w. LeavesBefore w n) (sym (ap (λ w. w ++ c ∷ []) h.is ∙ append_assoc n h.path (c ∷ []))) (inner_before n h.path c)

-- nothing is known by a piece that isn't gone, and what it knows it knows anywhere
knows_else : (Q : Place → Type 0) (first : Bool) (m : Start) (G G' : Type 0) (e e' c : Place) → (G → ⊥) → Knows Q first m G e c → Knows Q first m G' e' c
knows_else Q first m G G' e e' c n (inl h) = inl h
knows_else Q first m G G' e e' c n (inr (inl h)) = inr (inl h)
knows_else Q first m G G' e e' c n (inr (inr h)) = absurd (n h.0)

module _ (program : Revised) (tables : Tables) (memory : Memory) where
  steal_whole : (thief kits : ℕ) (Q : Place → Type 0) (first : Bool) (found later : List Bool) (p : Piece) (ps : List Piece) (younger : List Continuation) (k : Continuation) → Stacked k.parent.frame.instance k.under → p.deque ≡ younger ++ k ∷ [] → WaitsFit Q first (p ∷ ps)
      → ForSome (NewWaits Q first p ps) (robbed program tables memory thief kits p younger k)
  steal_whole thief kits Q first found later p ps younger k stack q h =
      let m = p.strand.start in
      let e = front ps in
      let fr = k.parent.frame in
      let n = place_of_continuation k in
      let m2 = behind fr.instance k.child in
      let p1 = with_strand p p.strand younger in
      let p2 : Piece = record { strand = stolen program.tree k; deque = []; state = Held thief; tally = no_tally } in
      let not_gone : Gone p → ⊥ = λ g. none_last younger k (sym q ∙ g.0) in
      let K = Knows Q first m (Gone p) e in
      let K1 = Knows Q first m (Gone p1) n in
      let P = Waiting Q first m (Gone p) e in
      let P1 = Waiting Q first m (Gone p1) n in
      let P2 = Waiting K1 false m2 (Gone p2) e in
      let one : (x : Place) (j : ℕ) → P x j → P1 x j = λ x j w. (knows_else Q first m (Gone p) (Gone p1) e n (child_of x j) not_gone w.0, w.1) in
      let two : (x : Place) (j : ℕ) → Extends x fr.instance → P x j → P2 x j = λ x j g w. (inl (one x j w).0, before_child x fr.instance k.child g) in
      elim h.0 [
        | inl g ↦ absurd (not_gone g)
        | inr y ↦
            let d = deque_split P younger k (subst (DequeWaits P) q y.1) in
            let self : Extends fr.instance fr.instance = record { path = []; is = sym (append_nil_is fr.instance) } in
            let slots : SlotsWait P2 fr.instance fr.env = narrowed P P2 fr.instance fr.env (λ j w. two fr.instance j self w) d.1.0 in
            let under : UnderWait P2 k.under = under_below P P2 fr.instance two fr.instance k.under self stack d.1.1 in (
              refl,
              (
                inr (stack_more P P1 one p.strand.frame p.strand.under y.0, deque_more P P1 one younger d.0),
                (
                  inr ((into_slot P2 fr.instance fr.env k.parent.into (waits k.child) slots (λ j z. let i : k.child ≡ j = cc in (inr (inl (ap (child_of fr.instance) (sym i))), order_inner fr.instance k.child [])), under), tt),
                  fit_more ps K (Knows K1 false m2 (Gone p2) e) false (λ c x. inl (knows_else Q first m (Gone p) (Gone p1) e n c not_gone x)) h.1,
                ),
              ),
            )
      ]
    where
      append_nil_is : (x : Place) → x ++ [] ≡ x
      append_nil_is [] = refl
      append_nil_is (a ∷ x) = ap (λ w. a ∷ w) (append_nil_is x)

  last_stacked : (m : Start) (younger : List Continuation) (k : Continuation) → Pushed program tables memory m (younger ++ k ∷ []) → Stacked k.parent.frame.instance k.under
  last_stacked m younger k h = (pushed_split program tables memory m younger k h).1.1.stacked

  rob_waits : (thief kits : ℕ) (Q : Place → Type 0) (first b : Bool) (found later : List Bool) (p : Piece) (ps : List Piece) → FitPiece program tables memory b p found later (front ps) → WaitsFit Q first (p ∷ ps) → (younger older : List Continuation) → p.deque ≡ younger ++ older
      → ForSome (NewWaits Q first p ps) (robbed_of program tables memory thief kits p younger older)
  rob_waits thief kits Q first b found later p ps i h younger [] q = tt
  rob_waits thief kits Q first b found later p ps i h younger (k ∷ []) q =
      steal_whole thief kits Q first found later p ps younger k (last_stacked p.strand.start younger k (subst (λ ks. Pushed program tables memory p.strand.start ks) q i.deque)) q h
  rob_waits thief kits Q first b found later p ps i h younger (k ∷ j ∷ ks) q = rob_waits thief kits Q first b found later p ps i h (younger ++ k ∷ []) (j ∷ ks) (q ∙ sym (append_assoc younger (k ∷ []) (j ∷ ks)))

  steals_wait : (thief kits : ℕ) (Q : Place → Type 0) (first b : Bool) (found later : List Bool) (p : Piece) (ps : List Piece) → FitPiece program tables memory b p found later (front ps) → WaitsFit Q first (p ∷ ps) → ForSome (NewWaits Q first p ps) (stolen_from program tables memory thief kits p)
  steals_wait thief zero Q first b found later p ps i h = tt
  steals_wait thief (suc kits) Q first b found later p ps i h = rob_waits thief kits Q first b found later p ps i h [] p.deque refl

-- nothing is known in front of a run
abbrev pub Nothing : Place → Type 0
Nothing c = ⊥

abbrev pub WaitsOf : RunState → Type 0
WaitsOf s = WaitsFit Nothing true s.pieces

module _ (program : Revised) (tables : Tables) (memory : Memory) where
  among_waits : (before : List Piece) (p : Piece) (ps : List Piece) (history : List BookStep) (o : Option Change) → ForSome (NewWaits (known_at Nothing true before (p ∷ ps)) (first_at true before) p ps) o → WaitsFit Nothing true (before ++ p ∷ ps) → ForSome WaitsOf (among before ps history o)
  among_waits before p ps history None k h = tt
  among_waits before p ps history (Some c) k h = fit_put before (p ∷ ps) (c.pieces ++ ps) Nothing true k.0 k.1 h

  changed_waits : (w : ℕ) (change : Piece → Option Change) → ((Q : Place → Type 0) (first b : Bool) (found later : List Bool) (p : Piece) (ps : List Piece) → FitPiece program tables memory b p found later (front ps) → WaitsFit Q first (p ∷ ps) → ForSome (NewWaits Q first p ps) (change p))
      → (before ps : List Piece) (history : List BookStep) (b : Bool) (found : List Bool) → FitAll program tables memory b (before ++ ps) found → WaitsFit Nothing true (before ++ ps) → ForSome WaitsOf (changed w change before ps history)
  changed_waits w change k before [] history b found r h = tt
  changed_waits w change k before (p ∷ ps) history b found r h =
      let shift = sym (append_assoc before (p ∷ []) ps) in
      either WaitsOf (is_held_by w p) (among before ps history (change p)) (changed w change (before ++ p ∷ []) ps history)
      (λ e. let i = inner program tables memory before (p ∷ ps) b found r in
      among_waits before p ps history (change p) (k (known_at Nothing true before (p ∷ ps)) (first_at true before) i.0 i.1.0 i.1.1.0 p ps i.1.1.1 (fit_at before (p ∷ ps) Nothing true h)) h)
      (changed_waits w change k (before ++ p ∷ []) ps history b found (subst (λ u. FitAll program tables memory b u found) shift r) (subst (λ u. WaitsFit Nothing true u) shift h))

-- ---- a fold

-- a slot that waits when a fold has settled it did before, for another child
settle_back : (e : Place) (v : ℤ) (n : Place) (s : Slot) (j : ℕ) → settle_slot e v n s ≡ waits j → (s ≡ waits j) × (child_of n j ≡ e → ⊥)
settle_back e v n unset j q = absurd cc
settle_back e v n (has x) j q = absurd cc
settle_back e v n (waits i) j q = by (same_name (child_of n i) e) refl q
  where
    by : (b : Bool) → same_name (child_of n i) e ≡ b → cond b (has v) (waits i) ≡ waits j → (waits i ≡ waits j) × (child_of n j ≡ e → ⊥)
    by true z y = absurd cc
    by false z y =
        let same : i ≡ j = cc in (
          y,
          λ x.
              let r : same_name (child_of n i) e ≡ true = subst (λ w. same_name (child_of n i) w ≡ true) (ap (child_of n) same ∙ x) (same_name_refl (child_of n i)) in
              let f : true ≡ false = sym r ∙ z in
              cc,
        )

module _ (P P' : Place → ℕ → Type 0) (e : Place) (v : ℤ) (k : (n : Place) (j : ℕ) → (child_of n j ≡ e → ⊥) → P n j → P' n j) where
  pub settled_slots : (n : Place) (env : List Slot) → SlotsWait P n env → SlotsWait P' n (map (settle_slot e v n) env)
  settled_slots n [] h = tt
  settled_slots n (s ∷ env) h = (λ j q. let b = settle_back e v n s j q in k n j b.1 (h.0 j b.0), settled_slots n env h.1)

  pub settled_parents : (t : List Parent) → UnderWait P t → UnderWait P' (settled_under e v t)
  settled_parents [] h = tt
  settled_parents (p ∷ t) h = (settled_slots p.frame.instance p.frame.env h.0, settled_parents t h.1)

up_to : (n e path : Place) → n ≡ e ++ path → UpTo n e
up_to n e [] h = inl (h ∙ append-nil e)
up_to n e (a ∷ path) h = inr (subst (λ w. LeavesBefore w e) (sym h) (order_inner e a path))

module _ (program : Revised) (tables : Tables) (memory : Memory) where
  abbrev NewPiece : (Place → Type 0) → Bool → Piece → List Piece → Piece → Type 0
  NewPiece Q first l ps q = (place_of q ≡ place_of l) × WaitsFit Q first (q ∷ ps)

  -- a strand with a fault takes in what the right one knew
  gone_waits : (w : ℕ) (Q : Place → Type 0) (first : Bool) (l r : Piece) (ps : List Piece) (k : Fault) → Asc first (l ∷ r ∷ ps) → WaitsFit Q first (l ∷ r ∷ ps) → ForSome (NewPiece Q first l ps) (folded_by program tables memory w l r (Some (broken_pair program tables memory l.strand r.strand k)))
  gone_waits w Q first l r ps k a h =
      let e = front ps in
      let pl = place_of l in
      let pr = place_of r in
      let q = with_strand l (broken_pair program tables memory l.strand r.strand k) [] in
      let gone : Gone q = (refl, (k, refl)) in
      let Kl = Knows Q first l.strand.start (Gone l) pr in (
        refl,
        (
          inl gone,
          fit_more ps (Knows Kl false r.strand.start (Gone r) e) (Knows Q first l.strand.start (Gone q) e) false (λ c x.
              elim x [
                | inl (inl y) ↦ inl y
                | inl (inr (inl y)) ↦ inr (inl y)
                | inl (inr (inr y)) ↦ inr (inr (gone, (y.1.0, before_trans c pr e y.1.1 a.2.1)))
                | inr (inl y) ↦ inr (inr (gone, (since_on first pl pr c a.1 (inl y), subst (λ z. LeavesBefore z e) (sym y) a.2.1)))
                | inr (inr y) ↦ inr (inr (gone, (since_on first pl pr c a.1 y.1.0, y.1.1)))
              ]) h.1.1,
        ),
      )

  gone_by : (w : ℕ) (Q : Place → Type 0) (first : Bool) (l r : Piece) (ps : List Piece) (k : Fault) (b : Bool) → Asc first (l ∷ r ∷ ps) → WaitsFit Q first (l ∷ r ∷ ps) → ForSome (NewPiece Q first l ps) (folded_by program tables memory w l r (cond b (Some (broken_pair program tables memory l.strand r.strand k)) None))
  gone_by w Q first l r ps k true a h = gone_waits w Q first l r ps k a h
  gone_by w Q first l r ps k false a h = tt

  join_waits : (w : ℕ) (Q : Place → Type 0) (first : Bool) (l r : Piece) (ps : List Piece) (v : ℤ) (m : Place) (k : ℕ) → (Gone l → ⊥) → (Gone r → ⊥) → place_of r ≡ child_of m k → l.strand.frame.instance ≡ place_of r → UpTo m (front ps) → Asc first (l ∷ r ∷ ps) → WaitsFit Q first (l ∷ r ∷ ps)
      → ForSome (NewPiece Q first l ps) (folded_by program tables memory w l r (Some (joined program.tree l.strand v r.strand)))
  join_waits w Q first l r ps v m k gl gr pr named up a h =
      let e = front ps in
      let x = l.strand.frame.instance in
      let q = with_strand l (joined program.tree l.strand v r.strand) [] in
      let Kl = Knows Q first l.strand.start (Gone l) (place_of r) in
      let Kr = Knows Kl false r.strand.start (Gone r) e in
      let Kq = Knows Q first l.strand.start (Gone q) e in
      let P = Waiting Kl false r.strand.start (Gone r) e in
      let P' = Waiting Q first l.strand.start (Gone q) e in
      let known : (c : Place) → (c ≡ place_of r → ⊥) → Kr c → Kq c = λ c n y.
      elim y [
        | inl (inl z) ↦ inl z
        | inl (inr (inl z)) ↦ inr (inl z)
        | inl (inr (inr z)) ↦ absurd (gl z.0)
        | inr (inl z) ↦ absurd (n z)
        | inr (inr z) ↦ absurd (gr z.0)
      ] in
      let slots : (n : Place) (j : ℕ) → (child_of n j ≡ x → ⊥) → P n j → P' n j = λ n j d y. (known (child_of n j) (λ z. d (z ∙ sym named)) y.0, order_on first (place_of l) (place_of r) n a.1 y.1) in
      elim h.1.0 [
        | inl g ↦ absurd (gr g)
        | inr y ↦ (refl, (inr ((settled_slots P P' x v slots r.strand.frame.instance r.strand.frame.env y.0.0, settled_parents P P' x v slots r.strand.under y.0.1), tt), fit_past m k ps Kr Kq (λ c d z. known c (λ s. d (s ∙ pr)) z) up a.2.2 h.1.1))
      ]

  join_starts : (w : ℕ) (Q : Place → Type 0) (first : Bool) (l r : Piece) (ps : List Piece) (v : ℤ) (rm : Start) → r.strand.start ≡ rm → Begins false rm → (Gone l → ⊥) → (Gone r → ⊥) → l.strand.frame.instance ≡ place_of r → is_entry rm r.strand.frame.instance ≡ true → Extends (front ps) r.strand.frame.instance → Asc first (l ∷ r ∷ ps) → WaitsFit Q first (l ∷ r ∷ ps)
      → ForSome (NewPiece Q first l ps) (folded_by program tables memory w l r (Some (joined program.tree l.strand v r.strand)))
  join_starts w Q first l r ps v root q b gl gr named entry x a h = absurd b
  join_starts w Q first l r ps v (behind m k) q b gl gr named entry x a h =
      join_waits w Q first l r ps v m k gl gr (ap place_of_start q) named (up_to m (front ps) x.path (same_name_true m r.strand.frame.instance entry ∙ x.is)) a h

  ends_below : (p : Piece) (found later : List Bool) (e : Place) → Whole program tables memory p found later e → p.deque ≡ [] → Extends e p.strand.frame.instance
  ends_below p found later e h d =
      let low : lowest p.strand.frame p.strand.under ≡ e = subst (λ ks. Links (lowest p.strand.frame p.strand.under) ks e) d h.links in
      let x = stacked_extends p.strand.frame p.strand.under h.right.task.stacked in
      record { path = x.path; is = x.is ∙ ap (λ n. n ++ x.path) low }

  join_by : (w : ℕ) (Q : Place → Type 0) (first : Bool) (mid later : List Bool) (l r : Piece) (ps : List Piece) (v : ℤ) → l.strand.phase ≡ leaving v → ((k : Fault) → r.strand.phase ≡ broken k → ⊥) → FitPiece program tables memory false r mid later (front ps) → Whole program tables memory r mid later (front ps) → strands.waits r.state ≡ true → Asc first (l ∷ r ∷ ps) → WaitsFit Q first (l ∷ r ∷ ps)
      → (b : Bool) → same_name l.strand.frame.instance (place_of r) && may_join program tables memory l.strand (joined program.tree l.strand v r.strand) ≡ b
      → ForSome (NewPiece Q first l ps) (folded_by program tables memory w l r (cond b (Some (joined program.tree l.strand v r.strand)) None))
  join_by w Q first mid later l r ps v q sound j g wt a h false e = tt
  join_by w Q first mid later l r ps v q sound j g wt a h true e =
      let s = stalled_of program tables memory r.state r.strand r.deque wt sound j.laid in
      join_starts w Q first l r ps v r.strand.start refl j.begins (λ z. let y : leaving v ≡ broken z.1.0 = sym q ∙ z.1.1 in cc) (λ z. sound z.1.0 z.1.1)
      (same_name_true l.strand.frame.instance (place_of r) (both_are (same_name l.strand.frame.instance (place_of r)) (may_join program tables memory l.strand (joined program.tree l.strand v r.strand)) e).0)
      s.entry (ends_below r mid later (front ps) g s.deque) a h

  join_fit : (w : ℕ) (Q : Place → Type 0) (first : Bool) (mid later : List Bool) (l r : Piece) (ps : List Piece) (v : ℤ) → l.strand.phase ≡ leaving v → ((k : Fault) → r.strand.phase ≡ broken k → ⊥) → FitPiece program tables memory false r mid later (front ps) → strands.waits r.state ≡ true → Asc first (l ∷ r ∷ ps) → WaitsFit Q first (l ∷ r ∷ ps)
      → ForSome (NewPiece Q first l ps) (folded_by program tables memory w l r (cond (same_name l.strand.frame.instance (place_of r) && may_join program tables memory l.strand (joined program.tree l.strand v r.strand)) (Some (joined program.tree l.strand v r.strand)) None))
  join_fit w Q first mid later l r ps v q sound j wt a h =
      elim j.fits [
        | inr c ↦ absurd (sound c.fault c.phase)
        | inl g ↦ join_by w Q first mid later l r ps v q sound j g wt a h (same_name l.strand.frame.instance (place_of r) && may_join program tables memory l.strand (joined program.tree l.strand v r.strand)) refl
      ]

  pair_waits : (w : ℕ) (Q : Place → Type 0) (first : Bool) (mid later : List Bool) (l r : Piece) (ps : List Piece) (ph q : Phase) → l.strand.phase ≡ ph → r.strand.phase ≡ q → FitPiece program tables memory false r mid later (front ps) → strands.waits r.state ≡ true → Asc first (l ∷ r ∷ ps) → WaitsFit Q first (l ∷ r ∷ ps)
      → ForSome (NewPiece Q first l ps) (folded_by program tables memory w l r (joined_pair program tables memory l.strand ph r.strand q))
  pair_waits w Q first mid later l r ps (broken k) q x y j wt a h = gone_waits w Q first l r ps k a h
  pair_waits w Q first mid later l r ps (leaving v) (broken k) x y j wt a h = gone_by w Q first l r ps k (same_name l.strand.frame.instance (place_of r)) a h
  pair_waits w Q first mid later l r ps (leaving v) (entering child) x y j wt a h = join_fit w Q first mid later l r ps v x (λ k z. let u : entering child ≡ broken k = sym y ∙ z in cc) j wt a h
  pair_waits w Q first mid later l r ps (leaving v) (running todo) x y j wt a h = join_fit w Q first mid later l r ps v x (λ k z. let u : running todo ≡ broken k = sym y ∙ z in cc) j wt a h
  pair_waits w Q first mid later l r ps (leaving v) (spawning d o child todo) x y j wt a h = join_fit w Q first mid later l r ps v x (λ k z. let u : spawning d o child todo ≡ broken k = sym y ∙ z in cc) j wt a h
  pair_waits w Q first mid later l r ps (leaving v) (returning i) x y j wt a h = join_fit w Q first mid later l r ps v x (λ k z. let u : returning i ≡ broken k = sym y ∙ z in cc) j wt a h
  pair_waits w Q first mid later l r ps (leaving v) (leaving i) x y j wt a h = join_fit w Q first mid later l r ps v x (λ k z. let u : leaving i ≡ broken k = sym y ∙ z in cc) j wt a h
  pair_waits w Q first mid later l r ps (entering child) q x y j wt a h = tt
  pair_waits w Q first mid later l r ps (running todo) q x y j wt a h = tt
  pair_waits w Q first mid later l r ps (spawning d o child todo) q x y j wt a h = tt
  pair_waits w Q first mid later l r ps (returning i) q x y j wt a h = tt

  fold_waits : (w : ℕ) (Q : Place → Type 0) (first : Bool) (mid later : List Bool) (l r : Piece) (ps : List Piece) → FitPiece program tables memory false r mid later (front ps) → Asc first (l ∷ r ∷ ps) → WaitsFit Q first (l ∷ r ∷ ps) → ForSome (NewPiece Q first l ps) (folded program tables memory w l r)
  fold_waits w Q first mid later l r ps j a h =
      either (NewPiece Q first l ps) (strands.done l.state && strands.waits r.state) (folded_by program tables memory w l r (joined_pair program tables memory l.strand l.strand.phase r.strand r.strand.phase)) None
      (λ z. pair_waits w Q first mid later l r ps l.strand.phase r.strand.phase refl refl j (both_are (strands.done l.state) (strands.waits r.state) z).1 a h) tt

  among_fold : (w kits : ℕ) (before : List Piece) (l r : Piece) (ps : List Piece) (history : List BookStep) (step : BookStep) (o : Option Piece) → ForSome (NewPiece (known_at Nothing true before (l ∷ r ∷ ps)) (first_at true before) l ps) o → WaitsFit Nothing true (before ++ l ∷ r ∷ ps) → ForSome WaitsOf (folded_among program tables memory w kits before ps history step o)
  among_fold w kits before l r ps history step None k h = tt
  among_fold w kits before l r ps history step (Some q) k h = fit_put before (l ∷ r ∷ ps) (q ∷ ps) Nothing true k.0 k.1 h

  folds_wait : (w : ℕ) (q : Place) (kits : ℕ) (before ps : List Piece) (history : List BookStep) (b : Bool) (found : List Bool) → FitAll program tables memory b (before ++ ps) found → Asc true (before ++ ps) → WaitsFit Nothing true (before ++ ps) → ForSome WaitsOf (folded_at program tables memory w q kits before ps history)
  folds_wait w q kits before [] history b found g a h = tt
  folds_wait w q kits before (l ∷ []) history b found g a h = tt
  folds_wait w q kits before (l ∷ r ∷ ps) history b found g a h =
      let shift = sym (append_assoc before (l ∷ []) (r ∷ ps)) in
      either WaitsOf (same_name (place_of r) q)
      (folded_among program tables memory w kits before ps history (Fold (place_of l) (place_of r) w) (folded program tables memory w l r))
      (folded_at program tables memory w q kits (before ++ l ∷ []) (r ∷ ps) history)
      (λ e. let i = inner program tables memory before (l ∷ r ∷ ps) b found g in
      among_fold w kits before l r ps history (Fold (place_of l) (place_of r) w) (folded program tables memory w l r)
      (fold_waits w (known_at Nothing true before (l ∷ r ∷ ps)) (first_at true before) i.1.1.0 i.1.1.2.0 l r ps i.1.1.2.1 (asc_at before (l ∷ r ∷ ps) true a) (fit_at before (l ∷ r ∷ ps) Nothing true h)) h)
      (folds_wait w q kits (before ++ l ∷ []) (r ∷ ps) history b found (subst (λ u. FitAll program tables memory b u found) shift g) (subst (Asc true) shift a) (subst (λ u. WaitsFit Nothing true u) shift h))

  -- ---- whole runs

  step_waits : (s : RunState) (e : RunStep) → IsRightNow program tables memory s → ToldOf s → WaitsOf s → ForSome WaitsOf (after_step program tables memory s e)
  step_waits s (work w) r t h = changed_waits program tables memory w (worked program tables memory s.kits) (λ Q first b found later p ps i x. works_wait program tables memory Q first s.kits p ps x) [] s.pieces s.history true [] r h
  step_waits s (push w) r t h = changed_waits program tables memory w (pushed program tables memory s.kits) (λ Q first b found later p ps i x. pushes_wait program tables memory Q first s.kits p ps p.strand.phase refl x) [] s.pieces s.history true [] r h
  step_waits s (inline w) r t h = changed_waits program tables memory w (inlined_of program tables memory s.kits) (λ Q first b found later p ps i x. inlines_wait program tables memory Q first s.kits p ps p.strand.phase refl x) [] s.pieces s.history true [] r h
  step_waits s (pop w) r t h =
      changed_waits program tables memory w (popped program tables memory s.kits)
      (λ Q first b found later p ps i x. pops_wait program tables memory Q first s.kits ps p.strand.start p.strand.layers p.strand.frame p.strand.phase p.strand.under p.deque p.state p.tally x) [] s.pieces s.history true [] r h
  step_waits s (stall w) r t h = changed_waits program tables memory w (stalled program tables memory s.kits) (λ Q first b found later p ps i x. stalls_wait program tables memory Q first s.kits p ps p.strand.phase p.strand.under p.deque x) [] s.pieces s.history true [] r h
  step_waits s (steal y v) r t h =
      idle program tables memory WaitsOf (is_idle y s.pieces) (changed v (stolen_from program tables memory y s.kits) [] s.pieces s.history)
      (changed_waits program tables memory v (stolen_from program tables memory y s.kits) (λ Q first b found later p ps i x. steals_wait program tables memory y s.kits Q first b found later p ps i x) [] s.pieces s.history true [] r h)
  step_waits s (fold w q) r t h =
      idle program tables memory WaitsOf (is_idle w s.pieces) (folded_at program tables memory w q s.kits [] s.pieces s.history)
      (folds_wait w q s.kits [] s.pieces s.history true [] r t.ascending h)

-- what holds of every run
pub record Runs (program : Revised) (tables : Tables) (memory : Memory) (s : RunState) : Type 0 where
  pub right : IsRightNow program tables memory s
  pub told : ToldOf s
  pub waits : WaitsOf s

module _ (program : Revised) (tables : Tables) (memory : Memory) (ready : IsReady program tables memory) where
  path_runs : (es : List RunStep) (s : RunState) → Runs program tables memory s → Runs program tables memory (path program tables memory s es)
  path_runs [] s h = h
  path_runs (e ∷ es) s h =
      let o = after_step program tables memory s e in
      path_runs es (or_same program tables memory s o) (record {
        right = kept_or program tables memory (IsRightNow program tables memory) s o h.right (step_right program tables memory ready s e h.right);
        told = kept_or program tables memory ToldOf s o h.told (step_told program tables memory s e h.right h.told);
        waits = kept_or program tables memory WaitsOf s o h.waits (step_waits program tables memory s e h.right h.told h.waits);
      })

  pub runs_from_first : (kits : ℕ) (es : List RunStep) → Runs program tables memory (path program tables memory (first_state program.tree kits) es)
  runs_from_first kits es =
      path_runs es (first_state program.tree kits) (record {
        right = begins_right program tables memory ready kits;
        told = begins_told program tables memory ready kits;
        waits = (inr ((new_slots (Waiting Nothing true root (Gone (record { strand = first_layered program.tree; deque = []; state = Held 0; tally = no_tally })) []) [] (env_of program.tree (instance main [])), tt), tt), tt);
      })
