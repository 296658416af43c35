-- Work, push, inline and pop keep a run right.
use Rattle.std.proofs.Common.{◌&&◌, ◌-◌, ◌≤◌, ℕ, suc, ℤ, List, [], ◌∷◌, ◌++◌, length, append_assoc, Option, Ok, ◌≡◌, inl, inr, refl, sym, ap, ◌∙◌, subst, true, false, Bool, nat_lt}
use Rattle.meaning.specs.Tree.{Tree}
use Rattle.meaning.specs.Tables.{Tables}
use Rattle.meaning.specs.Outcome.{Accumulators, Fault, Place, Leaves}
use Rattle.meaning.specs.Records.{Revised}
use Rattle.meaning.specs.SmallStep.{Start, Frame, Todo, Child, Phase, entering, running, spawning, returning, leaving, broken, Parent, with_value, awaiting, Step, moved, taken, paused, Lookup, micro, Continuation}
use Rattle.meaning.specs.Layers.{Notes, noted_top, total, notes_of}
use Rattle.meaning.specs.LayeredStrand.{advanced, continuation}
use Rattle.meaning.specs.Elision.{depth_limit}
use Rattle.meaning.specs.Strands.{State, holds_by}
use Rattle.meaning.specs.Tallies.{Tally}
use Rattle.meaning.specs.Schedules.{Memory, Piece, Change, place_of, place_of_start, step_of, worked_by, worked, pushed_at, pushed, inlined_at, inlined_of, popped_at, popped}
use Rattle.trail_theory.specs.Order.{Every}
use Rattle.trail_theory.specs.TaskFits.{Fringe, IsOrderlyPhase}
use Rattle.trail_theory.specs.Right.{IsRight, RecordedAreSound, StretchesMultiply}
use Rattle.trail_theory.specs.ReadsAtEnd.{KeepsRules}
use Rattle.trail_theory.proofs.ReadPoints.{advances_by_product}
use Rattle.trail_theory.proofs.Theorems.{inlines, detaches, continues, pops}
use Rattle.strand_theory.proofs.Laws.{S, L}
use Rattle.run_theory.specs.RightRuns.{front, Links, flags_of, deque_flags, count, LayerIsClosed, IsWhole, IsPushed, IsPiece}
use Rattle.run_theory.proofs.Flags.{Shifts, lowest_frame, IsNear, micro_shifts, higher_long, spot_long}
use Rattle.run_theory.proofs.Owned.{own_after, noted_length, take_length, layers_length, own_tail, owns_one}
use Rattle.run_theory.proofs.Pieces.{ForSome, held_any, Fit, behind_long, Replaces, KeepsFit}

abbrev pub piece_of : Start → List Notes → Frame → Phase → List Parent → List Continuation → State → Tally → Piece
piece_of m ls fr ph t ks st ta = record { strand = record { start = m; layers = ls; frame = fr; phase = ph; under = t }; deque = ks; state = st; tally = ta }

near_at : (program : Tree) (tables : Tables) (lookup : Lookup) (kit : Bool) (acc : Accumulators) (m : Start) (W : List ℕ) (fr : Frame) (ph : Phase) → IsOrderlyPhase program W fr ph → Fringe m fr.instance fr.next ph → LayerIsClosed ph fr.recorded
    → IsNear program tables lookup kit acc m (length (place_of_start m) ≤ length fr.instance) fr ph
near_at program tables lookup kit acc m W fr (entering child) o f c = (higher_long m fr.instance f, ap (λ r. r.recorded) o)
near_at program tables lookup kit acc m W fr (running todo) o f c = tt
near_at program tables lookup kit acc m W fr (spawning d x child todo) o f c = tt
near_at program tables lookup kit acc m W fr (returning v) o f c = λ e. spot_long m fr.instance fr.next f e
near_at program tables lookup kit acc m W fr (leaving v) o f c = (higher_long m fr.instance f, c)
near_at program tables lookup kit acc m W fr (broken k) o f c = tt

module _ (program : Revised) (tables : Tables) (memory : Memory) where
  abbrev pub FitPiece : Bool → Piece → List Bool → List Bool → Place → Type 0
  FitPiece = IsPiece program.tree tables (S program tables memory) (L program tables memory)

  abbrev pub FitAll : Bool → List Piece → List Bool → Type 0
  FitAll = Fit program.tree tables (S program tables memory) (L program tables memory)

  abbrev pub Whole : Piece → List Bool → List Bool → Place → Type 0
  Whole = IsWhole program.tree tables (S program tables memory) (L program tables memory)

  abbrev pub Pushed : Start → List Continuation → Type 0
  Pushed m ks = Every (IsPushed program.tree tables (S program tables memory) (L program tables memory) m) ks

  abbrev pub Put : Bool → List Bool → Piece → List Piece → Change → Type 0
  Put = Replaces program.tree tables (S program tables memory) (L program tables memory)

  abbrev pub Keeps : ℕ → (Piece → Option Change) → Type 0
  Keeps = KeepsFit program.tree tables (S program tables memory) (L program tables memory)

  pub shifts_of : (kits : ℕ) (p : Piece) (found later : List Bool) (e : Place) → Whole p found later e
      → Shifts p.strand.start (memory.recording && nat_lt 0 kits) (length (place_of p) ≤ length p.strand.frame.instance) p.strand.frame p.strand.under (step_of program tables memory kits p.strand)
  shifts_of kits p found later e h =
      let s = p.strand in
      let acc = (total program.tree s.layers).worth in
      let task = h.right.task in
      micro_shifts program.tree tables (L program tables memory) (memory.recording && nat_lt 0 kits) acc s.start (length (place_of p) ≤ length s.frame.instance) s.frame s.phase s.under
      (near_at program.tree tables (L program tables memory) (memory.recording && nat_lt 0 kits) acc s.start task.frame_fits.waiting s.frame s.phase task.frame_fits.orderly task.fringe h.closed) task.stacked

  -- a strand with a fault does no work
  pub worked_broken : (kits : ℕ) (P : Change → Type 0) (p : Piece) (k : Fault) → p.strand.phase ≡ broken k → ForSome P (worked program tables memory kits p)
  worked_broken kits P p k e =
      let s = p.strand in
      subst (λ ph. ForSome P (worked_by program tables memory kits p (micro program.tree tables (L program tables memory) (memory.recording && nat_lt 0 kits) (total program.tree s.layers).worth s.start s.frame ph s.under))) (sym e) tt

  module _ (law : StretchesMultiply program.tree tables (S program tables memory) (L program tables memory)) (rules : KeepsRules program.tree) (sound : RecordedAreSound program.tree tables (S program tables memory) (L program tables memory)) (kits w : ℕ) where
    -- ---- work

    work_to : (first : Bool) (found later : List Bool) (p : Piece) (ps : List Piece) → holds_by w p.state ≡ true → FitPiece first p found later (front ps) → (h : Whole p found later (front ps)) → FitAll false ps later
        → (st : Step) → IsRight program.tree tables (S program tables memory) (L program tables memory) (advanced program.tree p.strand st) → Shifts p.strand.start (memory.recording && nat_lt 0 kits) (length (place_of p) ≤ length p.strand.frame.instance) p.strand.frame p.strand.under st
        → ForSome (Put first found p ps) (worked_by program tables memory kits p st)
    work_to first found later p ps held i h rest (moved l evs fr ph t) right s =
        let ds = deque_flags p.deque in
        let one = owns_one program.tree tables (S program tables memory) (L program tables memory) p found later (front ps) h i.deque (behind_long program.tree tables (S program tables memory) (L program tables memory) false ps later rest) i.as_long in
        let o = own_after h.own (ds ++ later) found s.moves one (sym (append_assoc (flags_of p.strand.frame p.strand.under) ds later) ∙ h.flags) in (
          refl,
          (
            later,
            record {
              begins = i.begins;
              as_long = i.as_long;
              fits = inl (record {
                right = right;
                links = subst (λ n. Links n p.deque (front ps)) (sym s.lowest_is) h.links;
                own = o.after;
                flags = append_assoc (flags_of fr t) ds later ∙ o.flags;
                layers = layers_length program.tree l p.strand.layers evs (count h.own) (count o.after) h.layers o.counted;
                closed = s.closed;
              });
              deque = i.deque;
              laid = held_any w p.state _ p.deque held;
            },
            rest,
          ),
        )
    work_to first found later p ps held i h rest (taken evs k fr ph t) right s =
        let ds = deque_flags p.deque in
        let one = owns_one program.tree tables (S program tables memory) (L program tables memory) p found later (front ps) h i.deque (behind_long program.tree tables (S program tables memory) (L program tables memory) false ps later rest) i.as_long in
        let o = own_after h.own (ds ++ later) found s.moves one (sym (append_assoc (flags_of p.strand.frame p.strand.under) ds later) ∙ h.flags) in (
          refl,
          (
            later,
            record {
              begins = i.begins;
              as_long = i.as_long;
              fits = inl (record {
                right = right;
                links = subst (λ n. Links n p.deque (front ps)) (sym s.lowest_is) h.links;
                own = o.after;
                flags = append_assoc (flags_of fr t) ds later ∙ o.flags;
                layers = take_length program.tree (notes_of k (depth_limit - fr.left)) (noted_top p.strand.layers evs) ∙ noted_length p.strand.layers evs ∙ h.layers ∙ ap suc (sym o.counted);
                closed = s.closed;
              });
              deque = i.deque;
              laid = held_any w p.state _ p.deque held;
            },
            rest,
          ),
        )
    work_to first found later p ps held i h rest (paused e) right s = tt

    pub works_fit : Keeps w (worked program tables memory kits)
    works_fit first found later p ps held i rest =
        elim i.fits [
          | inl h ↦ work_to first found later p ps held i h rest (step_of program tables memory kits p.strand) (advances_by_product program.tree tables (L program tables memory) law rules sound (memory.recording && nat_lt 0 kits) p.strand h.right) (shifts_of kits p found later (front ps) h)
          | inr c ↦ worked_broken kits (Put first found p ps) p c.fault c.phase
        ]

    -- ---- push and inline

    push_whole : (first : Bool) (found later : List Bool) (ps : List Piece) (m : Start) (ls : List Notes) (fr : Frame) (t : List Parent) (ks : List Continuation) (st : State) (ta : Tally) (d : ℕ) (x : Option ℕ) (child : Child) (todo : Todo)
        → holds_by w st ≡ true → FitPiece first (piece_of m ls fr (spawning d x child todo) t ks st ta) found later (front ps) → Whole (piece_of m ls fr (spawning d x child todo) t ks st ta) found later (front ps) → FitAll false ps later
        → ForSome (Put first found (piece_of m ls fr (spawning d x child todo) t ks st ta) ps) (pushed_at program tables memory kits (piece_of m ls fr (spawning d x child todo) t ks st ta) (spawning d x child todo))
    push_whole first found later ps m ls fr t ks st ta d x child todo held i h rest =
        let s = (piece_of m ls fr (spawning d x child todo) t ks st ta).strand in
        let k = continuation s x todo in (
          refl,
          (
            later,
            record {
              begins = i.begins;
              as_long = i.as_long;
              fits = inl (record {
                right = detaches program.tree tables (S program tables memory) (L program tables memory) s d x child todo refl h.right;
                links = (refl, subst (λ n. Links n ks (front ps)) (sym (lowest_frame fr k.parent.frame t refl)) h.links);
                own = false ∷ h.own;
                flags = ap (λ u. false ∷ u) h.flags;
                layers = h.layers;
                closed = tt;
              });
              deque = ((refl, continues program.tree tables (S program tables memory) (L program tables memory) s d x child todo refl h.right), i.deque);
              laid = held_any w st _ _ held;
            },
            rest,
          ),
        )

    inline_whole : (first : Bool) (found later : List Bool) (ps : List Piece) (m : Start) (ls : List Notes) (fr : Frame) (t : List Parent) (ks : List Continuation) (st : State) (ta : Tally) (d : ℕ) (x : Option ℕ) (child : Child) (todo : Todo)
        → holds_by w st ≡ true → FitPiece first (piece_of m ls fr (spawning d x child todo) t ks st ta) found later (front ps) → Whole (piece_of m ls fr (spawning d x child todo) t ks st ta) found later (front ps) → FitAll false ps later
        → ForSome (Put first found (piece_of m ls fr (spawning d x child todo) t ks st ta) ps) (inlined_at program tables memory kits (piece_of m ls fr (spawning d x child todo) t ks st ta) (spawning d x child todo))
    inline_whole first found later ps m ls fr t ks st ta d x child todo held i h rest =
        let s = (piece_of m ls fr (spawning d x child todo) t ks st ta).strand in (
          refl,
          (
            later,
            record {
              begins = i.begins;
              as_long = i.as_long;
              fits = inl (record {
                right = inlines program.tree tables (S program tables memory) (L program tables memory) s d x child todo refl h.right;
                links = subst (λ n. Links n ks (front ps)) (sym (lowest_frame fr (awaiting fr true x todo).frame t refl)) h.links;
                own = false ∷ h.own;
                flags = ap (λ u. false ∷ u) h.flags;
                layers = h.layers;
                closed = tt;
              });
              deque = i.deque;
              laid = held_any w st _ _ held;
            },
            rest,
          ),
        )

    push_at : (first : Bool) (found later : List Bool) (ps : List Piece) (m : Start) (ls : List Notes) (fr : Frame) (ph : Phase) (t : List Parent) (ks : List Continuation) (st : State) (ta : Tally)
        → holds_by w st ≡ true → FitPiece first (piece_of m ls fr ph t ks st ta) found later (front ps) → FitAll false ps later → ForSome (Put first found (piece_of m ls fr ph t ks st ta) ps) (pushed_at program tables memory kits (piece_of m ls fr ph t ks st ta) ph)
    push_at first found later ps m ls fr (spawning d x child todo) t ks st ta held i rest =
        elim i.fits [ inl h ↦ push_whole first found later ps m ls fr t ks st ta d x child todo held i h rest | inr c ↦ absurd (let e : spawning d x child todo ≡ broken c.fault = c.phase in cc) ]
    push_at first found later ps m ls fr (entering child) t ks st ta held i rest = tt
    push_at first found later ps m ls fr (running todo) t ks st ta held i rest = tt
    push_at first found later ps m ls fr (returning v) t ks st ta held i rest = tt
    push_at first found later ps m ls fr (leaving v) t ks st ta held i rest = tt
    push_at first found later ps m ls fr (broken k) t ks st ta held i rest = tt

    pub pushes_fit : Keeps w (pushed program tables memory kits)
    pushes_fit first found later p ps held i rest =
        push_at first found later ps p.strand.start p.strand.layers p.strand.frame p.strand.phase p.strand.under p.deque p.state p.tally held i rest

    inline_at : (first : Bool) (found later : List Bool) (ps : List Piece) (m : Start) (ls : List Notes) (fr : Frame) (ph : Phase) (t : List Parent) (ks : List Continuation) (st : State) (ta : Tally)
        → holds_by w st ≡ true → FitPiece first (piece_of m ls fr ph t ks st ta) found later (front ps) → FitAll false ps later → ForSome (Put first found (piece_of m ls fr ph t ks st ta) ps) (inlined_at program tables memory kits (piece_of m ls fr ph t ks st ta) ph)
    inline_at first found later ps m ls fr (spawning d x child todo) t ks st ta held i rest =
        elim i.fits [ inl h ↦ inline_whole first found later ps m ls fr t ks st ta d x child todo held i h rest | inr c ↦ absurd (let e : spawning d x child todo ≡ broken c.fault = c.phase in cc) ]
    inline_at first found later ps m ls fr (entering child) t ks st ta held i rest = tt
    inline_at first found later ps m ls fr (running todo) t ks st ta held i rest = tt
    inline_at first found later ps m ls fr (returning v) t ks st ta held i rest = tt
    inline_at first found later ps m ls fr (leaving v) t ks st ta held i rest = tt
    inline_at first found later ps m ls fr (broken k) t ks st ta held i rest = tt

    pub inlines_fit : Keeps w (inlined_of program tables memory kits)
    inlines_fit first found later p ps held i rest =
        inline_at first found later ps p.strand.start p.strand.layers p.strand.frame p.strand.phase p.strand.under p.deque p.state p.tally held i rest

    -- ---- pop

    pop_whole : (first : Bool) (found later : List Bool) (ps : List Piece) (m : Start) (ls : List Notes) (fr : Frame) (v : ℤ) (k : Continuation) (ks : List Continuation) (st : State) (ta : Tally)
        → holds_by w st ≡ true → FitPiece first (piece_of m ls fr (leaving v) [] (k ∷ ks) st ta) found later (front ps) → Whole (piece_of m ls fr (leaving v) [] (k ∷ ks) st ta) found later (front ps) → FitAll false ps later
        → ForSome (Put first found (piece_of m ls fr (leaving v) [] (k ∷ ks) st ta) ps) (popped_at program tables memory kits (piece_of m ls fr (leaving v) [] (k ∷ ks) st ta) (leaving v) [] (k ∷ ks))
    pop_whole first found later ps m ls fr v k ks st ta held i h rest =
        let p = piece_of m ls fr (leaving v) [] (k ∷ ks) st ta in
        let one = owns_one program.tree tables (S program tables memory) (L program tables memory) p found later (front ps) h i.deque (behind_long program.tree tables (S program tables memory) (L program tables memory) false ps later rest) i.as_long (higher_long m fr.instance h.right.task.fringe) in
        let o = own_tail h.own ((flags_of k.parent.frame k.under ++ deque_flags ks) ++ later) found fr.recorded one h.closed h.flags in (
          refl,
          (
            later,
            record {
              begins = i.begins;
              as_long = i.as_long;
              fits = inl (record {
                right = pops program.tree tables (S program tables memory) (L program tables memory) p.strand k v refl refl (sym i.deque.0.0) h.links.0 h.right i.deque.0.1;
                links = subst (λ n. Links n ks (front ps)) (sym (lowest_frame k.parent.frame (with_value k.parent v) k.under refl)) h.links.1;
                own = o.after;
                flags = o.flags;
                layers = noted_length ls (Leaves fr.instance (Ok v) ∷ []) ∙ h.layers ∙ ap suc (sym o.counted);
                closed = tt;
              });
              deque = i.deque.1;
              laid = held_any w st _ _ held;
            },
            rest,
          ),
        )

    pop_at : (first : Bool) (found later : List Bool) (ps : List Piece) (m : Start) (ls : List Notes) (fr : Frame) (ph : Phase) (t : List Parent) (ks : List Continuation) (st : State) (ta : Tally)
        → holds_by w st ≡ true → FitPiece first (piece_of m ls fr ph t ks st ta) found later (front ps) → FitAll false ps later → ForSome (Put first found (piece_of m ls fr ph t ks st ta) ps) (popped_at program tables memory kits (piece_of m ls fr ph t ks st ta) ph t ks)
    pop_at first found later ps m ls fr (leaving v) [] (k ∷ ks) st ta held i rest =
        elim i.fits [ inl h ↦ pop_whole first found later ps m ls fr v k ks st ta held i h rest | inr c ↦ absurd (let e : leaving v ≡ broken c.fault = c.phase in cc) ]
    pop_at first found later ps m ls fr (leaving v) [] [] st ta held i rest = tt
    pop_at first found later ps m ls fr (leaving v) (p ∷ t) ks st ta held i rest = tt
    pop_at first found later ps m ls fr (spawning d x child todo) t ks st ta held i rest = tt
    pop_at first found later ps m ls fr (entering child) t ks st ta held i rest = tt
    pop_at first found later ps m ls fr (running todo) t ks st ta held i rest = tt
    pop_at first found later ps m ls fr (returning v) t ks st ta held i rest = tt
    pop_at first found later ps m ls fr (broken k) t ks st ta held i rest = tt

    pub pops_fit : Keeps w (popped program tables memory kits)
    pops_fit first found later p ps held i rest =
        pop_at first found later ps p.strand.start p.strand.layers p.strand.frame p.strand.phase p.strand.under p.deque p.state p.tally held i rest
