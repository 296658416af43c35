-- A worker that holds a strand can always go on with it.
use Rattle.std.proofs.Common.{◌&&◌, ◌++◌, append_assoc, ◌≤◌, ◌⊎◌, inl, inr, ℕ, zero, suc, ℤ, List, [], ◌∷◌, map, length, Option, Some, None, Result, Ok, Err, ◌≡◌, refl, sym, ap, ◌∙◌, subst, true, false, Bool, cond, not, arith, nat_lt}
use Rattle.std.specs.Prelude.{◌-◌, nat_le}
use Rattle.meaning.specs.Tree.{Name, bind, enter, read, sync, update, choose, loop, give, end, step, Tree}
use Rattle.meaning.specs.declared.tree.Way.TheVariants.{Call, Spawn}
use Rattle.meaning.specs.declared.FaultKind.{FaultKind}
use Rattle.meaning.specs.Tables.{Tables}
use Rattle.meaning.specs.Outcome.{Out, Log, Accumulators, Site, Place}
use Rattle.meaning.specs.Values.{value, values}
use Rattle.meaning.specs.Trail.{child_of, halvings}
use Rattle.meaning.specs.Statements.{reducers, job_of, turn_values, update_of, bounds}
use Rattle.meaning.specs.Elision.{depth_limit}
use Rattle.meaning.specs.Records.{Revised, Kept}
use Rattle.meaning.specs.SmallStep.{seen, Start, root, behind, is_entry, Frame, Todo, blocks, halves, second, turns, Child, instance, half, Phase, entering, running, spawning, returning, leaving, broken, Parent, awaiting, child_name, opened, at_spawn, at_sync, returned, faulted, Step, moved, taken, paused, led_step, unless, on_answer, on_value, on_depth, Lookup, memo_answer, enter_by, enter_step, todo_step, Continuation, place_of_continuation}
use Rattle.meaning.specs.Layers.{Notes, total}
use Rattle.meaning.specs.RestOfRun.{lowest}
use Rattle.meaning.specs.Statements.{proc_of}
use Rattle.meaning.specs.Strands.{State, BookStep}
use Rattle.meaning.specs.Tallies.{Tally}
use Rattle.meaning.specs.Schedules.{Memory, Piece, Change, RunState, work, push, pop, stall, first_state, is_held_by, is_idle, among, changed, step_of, worked_by, worked, pushed, popped, left_by, stalled_by, stalled, path}
use Rattle.trail_theory.specs.TaskFits.{Higher, Spot, Stacked}
use Rattle.trail_theory.proofs.Places.{child_above}
use Rattle.run_theory.specs.RightRuns.{Links}
use Rattle.strand_theory.specs.Ready.{IsReady}
use Rattle.run_theory.specs.Progress.{HoldersGoOn}
use Rattle.strand_theory.proofs.Names.{same_name_true}
use Rattle.run_theory.proofs.Flags.{higher_long, child_long}
use Rattle.run_theory.proofs.Steps.{piece_of, FitPiece, FitAll, Whole, Pushed}
use Rattle.strand_theory.proofs.Laws.{L}
use Rattle.run_theory.proofs.Telling.{stacked_extends}
use Rattle.run_theory.proofs.Paths.{paths_right}

-- ---- a small step is taken but at a spawn, where the strand has ended or has a fault, and at a sync of its entry

abbrev Goes : Start → Frame → Step → Type 0
Goes m fr (moved l evs fr' ph t) = Unit {0}
Goes m fr (taken evs k fr' ph t) = Unit {0}
Goes m fr (paused at_sync) = is_entry m fr.instance ≡ true
Goes m fr (paused at_spawn) = ⊥
Goes m fr (paused returned) = ⊥
Goes m fr (paused faulted) = ⊥

module _ (m : Start) (fr : Frame) (t : List Parent) where
  led_goes : (es : Log) (s : Step) → Goes m fr s → Goes m fr (led_step es s)
  led_goes es (moved l evs fr' ph t') h = h
  led_goes es (taken evs k fr' ph t') h = h
  led_goes es (paused p) h = h

  unless_goes : (b : Bool) (s : Step) → is_entry m fr.instance ≡ b → Goes m fr s → Goes m fr (unless b s)
  unless_goes true s e h = e
  unless_goes false s e h = h

  on_answer_goes : {A : Type 0} (site : Site) (r : Result A FaultKind) (next : A → Step) → ((a : A) → Goes m fr (next a)) → Goes m fr (on_answer fr t site r next)
  on_answer_goes site (Ok a) next h = h a
  on_answer_goes site (Err k) next h = tt

  value_goes : {A : Type 0} (site : Site) (o : Out FaultKind A) (next : A → Step) → ((a : A) → Goes m fr (next a)) → Goes m fr (on_value fr t site o next)
  value_goes site o next h = led_goes o.log (on_answer fr t site o.answer next) (on_answer_goes site o.answer next h)

  depth_goes : (site : Site) (d : ℕ) (next : ℕ → Step) → ((d : ℕ) → Goes m fr (next d)) → Goes m fr (on_depth fr t site d next)
  depth_goes site zero next h = tt
  depth_goes site (suc d) next h = h d

  cond_goes : (b : Bool) (x y : Step) → Goes m fr x → Goes m fr y → Goes m fr (cond b x y)
  cond_goes true x y h k = h
  cond_goes false x y h k = k

module _ (program : Tree) (tables : Tables) (lookup : Lookup) (kit : Bool) (acc : Accumulators) (m : Start) where
  by_goes : (o : Option Kept) (fr fr' : Frame) (f : Name) (vs : List ℤ) (t : List Parent) → Goes m fr (enter_by program tables lookup kit acc o fr' f vs t)
  by_goes (Some k) fr fr' f vs t = tt
  by_goes None fr fr' f vs t = tt

  enter_goes : (fr fr' : Frame) (child : Child) (t : List Parent) → Goes m fr (enter_step program tables lookup kit acc fr' child t)
  enter_goes fr fr' (instance f vs) t = by_goes (memo_answer lookup (proc_of program f).memo f vs (depth_limit - fr'.left)) fr fr' f vs t
  enter_goes fr fr' (half k job count i) t = tt

  child_goes : (fr : Frame) (d : ℕ) (spawned : Bool) (x : Option ℕ) (child : Child) (todo : Todo) (t : List Parent) → Goes m fr (enter_step program tables lookup kit acc (opened program d child (child_name fr)) child (awaiting fr spawned x todo ∷ t))
  child_goes fr d spawned x child todo t = enter_goes fr (opened program d child (child_name fr)) child (awaiting fr spawned x todo ∷ t)

  todo_goes : (fr : Frame) (todo : Todo) (t : List Parent) → Goes m fr (todo_step program tables lookup kit acc m fr todo t)
  todo_goes fr (blocks []) t = tt
  todo_goes fr (blocks (end ∷ bs)) t = tt
  todo_goes fr (blocks (step s sync b ∷ bs)) t = unless_goes m fr t (is_entry m fr.instance) _ refl tt
  todo_goes fr (blocks (step s (bind x e) b ∷ bs)) t = value_goes m fr t _ (value tables (map seen fr.env) e) _ (λ v. tt)
  todo_goes fr (blocks (step s (enter x Call f es) b ∷ bs)) t =
      value_goes m fr t _ (values tables (map seen fr.env) es) _ (λ vs. depth_goes m fr t _ fr.left _ (λ d. child_goes fr d false x (instance f vs) (blocks (b ∷ bs)) t))
  todo_goes fr (blocks (step s (enter x Spawn f es) b ∷ bs)) t =
      value_goes m fr t _ (values tables (map seen fr.env) es) _ (λ vs. depth_goes m fr t _ fr.left _ (λ d. tt))
  todo_goes fr (blocks (step s (read x r) b ∷ bs)) t = tt
  todo_goes fr (blocks (step s (update r es) b ∷ bs)) t = value_goes m fr t _ (update_of tables (reducers program) (map seen fr.env) r es) _ (λ u. tt)
  todo_goes fr (blocks (step s (choose e x y) b ∷ bs)) t = value_goes m fr t _ (value tables (map seen fr.env) e) _ (λ v. tt)
  todo_goes fr (blocks (step s (loop x e e' grain f es) b ∷ bs)) t =
      value_goes m fr t _ (bounds tables (map seen fr.env) e e') _ (λ range. child_goes fr fr.left false None (half halvings (job_of (record { procedure = fr.here; statement = s }) (map seen fr.env) x f es grain range.0) range.1 0) (blocks (b ∷ bs)) t)
  todo_goes fr (blocks (step s (give e) b ∷ bs)) t = value_goes m fr t _ (value tables (map seen fr.env) e) _ (λ v. tt)
  todo_goes fr (halves zero job count i) t = tt
  todo_goes fr (halves (suc k) job count i) t = cond_goes m fr t (nat_le count job.grain) _ _ tt tt
  todo_goes fr (second k job count i) t = child_goes fr fr.left false None (half k job count i) (blocks []) t
  todo_goes fr (turns job zero i) t = tt
  todo_goes fr (turns job (suc count) i) t =
      value_goes m fr t job.site (turn_values tables job i) _ (λ vs. depth_goes m fr t job.site fr.left _ (λ d. child_goes fr d false None (instance job.callee vs) (turns job count (suc i)) t))

-- ---- where continuations are there the strand isn't in its entry

higher_longer : (m : Start) (n path : Place) → Higher m n → Higher m (n ++ path)
higher_longer root n path h = tt
higher_longer (behind m k) n path h = record { child = h.child; path = h.path ++ path; later = h.later; is = ap (λ w. w ++ path) h.is ∙ append_assoc m (h.child ∷ h.path) path }

entry_not_higher : (m : Start) (n : Place) → is_entry m n ≡ true → Higher m n → ⊥
entry_not_higher root n e h = cc
entry_not_higher (behind m k) n e h =
    let q : length m ≡ length n = ap length (same_name_true m n e) in
    let c : length (child_of m k) ≡ suc (length m) = child_long m k in
    let l : length (child_of m k) ≤ length n = higher_long (behind m k) n h in
    omega arith

not_in_entry : (m : Start) (fr : Frame) (t : List Parent) (k : Continuation) → lowest fr t ≡ place_of_continuation k → Stacked fr.instance t → Spot m k.parent.frame.instance k.child → is_entry m fr.instance ≡ true → ⊥
not_in_entry m fr t k l st spot e =
    let x = stacked_extends fr t st in
    let low : Higher m (lowest fr t) = subst (Higher m) (sym l) (child_above m k.parent.frame.instance k.child spot) in
    entry_not_higher m fr.instance e (subst (Higher m) (sym x.is) (higher_longer m (lowest fr t) x.path low))

module _ (program : Revised) (tables : Tables) (memory : Memory) where
  -- ---- a strand that is held

  abbrev Changes : (Piece → Option Change) → Piece → Type 0
  Changes change p = (c : Change) × (change p ≡ Some c)

  abbrev CanGo : ℕ → Piece → Type 0
  CanGo kits p = Changes (worked program tables memory kits) p ⊎ Changes (pushed program tables memory kits) p ⊎ Changes (popped program tables memory kits) p ⊎ Changes (stalled program tables memory kits) p

  left_some : (kits : ℕ) (p : Piece) (n : Place) → (c : Change) × (left_by program tables memory kits p n ≡ Some c)
  left_some kits p [] = (_, refl)
  left_some kits p (k ∷ n) = (_, refl)

  -- with no continuations it is laid down at a sync
  step_or_stall : (kits : ℕ) (p : Piece) (s : Step) → step_of program tables memory kits p.strand ≡ s → Goes p.strand.start p.strand.frame s → stalled program tables memory kits p ≡ stalled_by program tables memory kits p (step_of program tables memory kits p.strand) → CanGo kits p
  step_or_stall kits p (moved l evs fr ph t) e g q = inl (_, ap (worked_by program tables memory kits p) e)
  step_or_stall kits p (taken evs k fr ph t) e g q = inl (_, ap (worked_by program tables memory kits p) e)
  step_or_stall kits p (paused at_sync) e g q = inr (inr (inr (_, q ∙ ap (stalled_by program tables memory kits p) e)))
  step_or_stall kits p (paused at_spawn) e g q = absurd g
  step_or_stall kits p (paused returned) e g q = absurd g
  step_or_stall kits p (paused faulted) e g q = absurd g

  -- with some there is no sync
  step_taken : (kits : ℕ) (p : Piece) (s : Step) → step_of program tables memory kits p.strand ≡ s → Goes p.strand.start p.strand.frame s → (is_entry p.strand.start p.strand.frame.instance ≡ true → ⊥) → CanGo kits p
  step_taken kits p (moved l evs fr ph t) e g n = inl (_, ap (worked_by program tables memory kits p) e)
  step_taken kits p (taken evs k fr ph t) e g n = inl (_, ap (worked_by program tables memory kits p) e)
  step_taken kits p (paused at_sync) e g n = absurd (n g)
  step_taken kits p (paused at_spawn) e g n = absurd g
  step_taken kits p (paused returned) e g n = absurd g
  step_taken kits p (paused faulted) e g n = absurd g

  -- a strand that may be at a sync
  on_its_way : (kits : ℕ) (first : Bool) (found later : List Bool) (e : Place) (p : Piece) (ks : List Continuation) → p.deque ≡ ks → FitPiece program tables memory first p found later e → Whole program tables memory p found later e
      → Goes p.strand.start p.strand.frame (step_of program tables memory kits p.strand) → (ks ≡ [] → stalled program tables memory kits p ≡ stalled_by program tables memory kits p (step_of program tables memory kits p.strand)) → CanGo kits p
  on_its_way kits first found later e p [] d i h g q = step_or_stall kits p (step_of program tables memory kits p.strand) refl g (q refl)
  on_its_way kits first found later e p (k ∷ ks) d i h g q =
      let link : Links (lowest p.strand.frame p.strand.under) (k ∷ ks) e = subst (λ ds. Links (lowest p.strand.frame p.strand.under) ds e) d h.links in
      let c = subst (Pushed program tables memory p.strand.start) d i.deque in
      step_taken kits p (step_of program tables memory kits p.strand) refl g
      (not_in_entry p.strand.start p.strand.frame p.strand.under k link.0 h.right.task.stacked (subst (λ m. Spot m k.parent.frame.instance k.child) c.0.0 c.0.1.spot))

  goes_at : (kits : ℕ) (first : Bool) (found later : List Bool) (e : Place) (m : Start) (ls : List Notes) (fr : Frame) (ph : Phase) (t : List Parent) (ks : List Continuation) (st : State) (ta : Tally) → let p = piece_of m ls fr ph t ks st ta in
      FitPiece program tables memory first p found later e → CanGo kits p
  goes_at kits first found later e m ls fr (broken k) t ks st ta i = inr (inr (inr (_, refl)))
  goes_at kits first found later e m ls fr (spawning d x child todo) t ks st ta i = inr (inl (_, refl))
  goes_at kits first found later e m ls fr (leaving v) [] [] st ta i = inr (inr (inr (left_some kits (piece_of m ls fr (leaving v) [] [] st ta) fr.instance)))
  goes_at kits first found later e m ls fr (leaving v) [] (k ∷ ks) st ta i = inr (inr (inl (_, refl)))
  goes_at kits first found later e m ls fr (leaving v) (q ∷ t) ks st ta i = inl (_, refl)
  goes_at kits first found later e m ls fr (entering child) t ks st ta i =
      elim i.fits [
        | inr c ↦ absurd (let z : entering child ≡ broken c.fault = c.phase in cc)
        | inl h ↦ on_its_way kits first found later e (piece_of m ls fr (entering child) t ks st ta) ks refl i h
            (enter_goes program.tree tables (L program tables memory) (memory.recording && nat_lt 0 kits) (total program.tree ls).worth m fr fr child t)
            (λ d. rw d refl)
      ]
  goes_at kits first found later e m ls fr (running todo) t ks st ta i =
      elim i.fits [
        | inr c ↦ absurd (let z : running todo ≡ broken c.fault = c.phase in cc)
        | inl h ↦ on_its_way kits first found later e (piece_of m ls fr (running todo) t ks st ta) ks refl i h
            (todo_goes program.tree tables (L program tables memory) (memory.recording && nat_lt 0 kits) (total program.tree ls).worth m fr todo t)
            (λ d. rw d refl)
      ]
  goes_at kits first found later e m ls fr (returning v) t ks st ta i =
      elim i.fits [
        | inr c ↦ absurd (let z : returning v ≡ broken c.fault = c.phase in cc)
        | inl h ↦ on_its_way kits first found later e (piece_of m ls fr (returning v) t ks st ta) ks refl i h
            (unless_goes m fr t (is_entry m fr.instance) _ refl tt)
            (λ d. rw d refl)
      ]

  piece_goes : (kits : ℕ) (first : Bool) (found later : List Bool) (e : Place) (p : Piece) → FitPiece program tables memory first p found later e → CanGo kits p
  piece_goes kits first found later e p i = goes_at kits first found later e p.strand.start p.strand.layers p.strand.frame p.strand.phase p.strand.under p.deque p.state p.tally i

  -- ---- in the list

  abbrev Gets : Option RunState → Type 0
  Gets o = (t : RunState) × (o ≡ Some t)

  module _ (w kits : ℕ) (history : List BookStep) where
    abbrev Found : List Piece → List Piece → Type 0
    Found before ps =
        Gets (changed w (worked program tables memory kits) before ps history) ⊎ Gets (changed w (pushed program tables memory kits) before ps history)
        ⊎ Gets (changed w (popped program tables memory kits) before ps history) ⊎ Gets (changed w (stalled program tables memory kits) before ps history)

    here : (change : Piece → Option Change) (before : List Piece) (p : Piece) (ps : List Piece) → is_held_by w p ≡ true → Changes change p → Gets (changed w change before (p ∷ ps) history)
    here change before p ps e c = (_, ap (λ b. cond b (among before ps history (change p)) (changed w change (before ++ p ∷ []) ps history)) e ∙ ap (among before ps history) c.1)

    there : (change : Piece → Option Change) (before : List Piece) (p : Piece) (ps : List Piece) → is_held_by w p ≡ false → Gets (changed w change (before ++ p ∷ []) ps history) → Gets (changed w change before (p ∷ ps) history)
    there change before p ps e c = (c.0, ap (λ b. cond b (among before ps history (change p)) (changed w change (before ++ p ∷ []) ps history)) e ∙ c.1)

    not_idle : (a b : Bool) → a ≡ false → not a && b ≡ false → b ≡ false
    not_idle false b e h = h
    not_idle true b e h = absurd cc

    found_at : (before : List Piece) (p : Piece) (ps : List Piece) → CanGo kits p → (b : Bool) → is_held_by w p ≡ b → (b ≡ false → Found (before ++ p ∷ []) ps) → Found before (p ∷ ps)
    found_at before p ps go true e next =
        elim go [
          | inl c ↦ inl (here (worked program tables memory kits) before p ps e c)
          | inr (inl c) ↦ inr (inl (here (pushed program tables memory kits) before p ps e c))
          | inr (inr (inl c)) ↦ inr (inr (inl (here (popped program tables memory kits) before p ps e c)))
          | inr (inr (inr c)) ↦ inr (inr (inr (here (stalled program tables memory kits) before p ps e c)))
        ]
    found_at before p ps go false e next =
        elim (next refl) [
          | inl c ↦ inl (there (worked program tables memory kits) before p ps e c)
          | inr (inl c) ↦ inr (inl (there (pushed program tables memory kits) before p ps e c))
          | inr (inr (inl c)) ↦ inr (inr (inl (there (popped program tables memory kits) before p ps e c)))
          | inr (inr (inr c)) ↦ inr (inr (inr (there (stalled program tables memory kits) before p ps e c)))
        ]

    found : (first : Bool) (flags : List Bool) (before ps : List Piece) → FitAll program tables memory first ps flags → is_idle w ps ≡ false → Found before ps
    found first flags before [] h e = absurd cc
    found first flags before (p ∷ ps) h e =
        found_at before p ps (piece_goes kits first flags h.0 _ p h.1) (is_held_by w p) refl
        (λ q. found false h.0 (before ++ p ∷ []) ps h.2 (not_idle (is_held_by w p) (is_idle w ps) q e))

  module _ (ready : IsReady program tables memory) where
    pub holders_go_on : HoldersGoOn program tables memory
    holders_go_on kits es w e =
        let s = path program tables memory (first_state program.tree kits) es in
        elim (found w s.kits s.history true [] [] s.pieces (paths_right program tables memory ready kits es) e) [
          | inl c ↦ record { step = work w; own = inl refl; taken = c }
          | inr (inl c) ↦ record { step = push w; own = inr (inl refl); taken = c }
          | inr (inr (inl c)) ↦ record { step = pop w; own = inr (inr (inl refl)); taken = c }
          | inr (inr (inr c)) ↦ record { step = stall w; own = inr (inr (inr refl)); taken = c }
        ]
