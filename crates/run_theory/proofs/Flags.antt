-- What a small step does to the flags of the instances, and to the layers.
use Rattle.std.proofs.Common.{append_assoc, ◌-◌, ◌+◌, ◌≤◌, ℕ, zero, suc, List, [], ◌∷◌, ◌++◌, length, length-append, Option, Some, None, Result, Ok, Err, ℤ, ◌≡◌, refl, sym, ap, ◌∙◌, subst, arith, true, false, Bool, cond, map, ◌&&◌}
use Rattle.std.specs.Prelude.{nat_le}
use Rattle.meaning.specs.Tree.{Name, bind, enter, read, sync, update, choose, loop, give, end, step, Tree}
use Rattle.meaning.specs.declared.tree.Way.TheVariants.{Call, Spawn}
use Rattle.meaning.specs.declared.FaultKind.{FaultKind}
use Rattle.meaning.specs.Tables.{Tables}
use Rattle.meaning.specs.Outcome.{Log, Accumulators, Place, Site, Out}
use Rattle.meaning.specs.Values.{value, values}
use Rattle.meaning.specs.Statements.{reducers, job_of, proc_of, update_of, bounds, turn_values}
use Rattle.meaning.specs.Elision.{depth_limit}
use Rattle.meaning.specs.Records.{Kept}
use Rattle.meaning.specs.Trail.{halvings, child_of}
use Rattle.meaning.specs.SmallStep.{seen, Start, root, behind, is_entry, Frame, Todo, blocks, halves, second, turns, Child, instance, half, Phase, entering, running, spawning, returning, leaving, broken, Parent, with_value, Layers, noting, opening_one, closing_one, Pause, at_spawn, at_sync, returned, faulted, Step, moved, taken, paused, led_step, unless, on_answer, on_value, on_depth, Lookup, memo_answer, opened, child_name, awaiting, with_layer, enter_by, layer_of, leaving_layer, enter_step, enter_child, todo_step, micro}
use Rattle.meaning.specs.RestOfRun.{lowest}
use Rattle.meaning.specs.Schedules.{place_of_start}
use Rattle.trail_theory.specs.TaskFits.{Higher, Spot, IsChild, Stacked}
use Rattle.trail_theory.proofs.Places.{spot_above}
use Rattle.run_theory.proofs.Lefts.{LeftOf, point, left_longer, left_on}
use Rattle.run_theory.specs.RightRuns.{under_flags, flags_of, count, LayerIsClosed}

-- what a step does to the flags; R says that the topmost instance was entered since the strand began
pub data Moves (kit : Bool) (R : Type 0) : Layers → List Bool → List Bool → Type 0 where
  same : {bs : List Bool} → Moves kit R noting bs bs
  called : {bs : List Bool} → Moves kit R noting bs (false ∷ bs)
  recorded : {bs : List Bool} → kit ≡ true → Moves kit R opening_one bs (true ∷ bs)
  entered : {bs : List Bool} → R → kit ≡ true → Moves kit R opening_one (false ∷ bs) (true ∷ bs)
  closes : {bs : List Bool} → R → Moves kit R closing_one (true ∷ bs) (false ∷ bs)
  leaves : {bs : List Bool} → R → Moves kit R noting (false ∷ bs) bs

pub record Shifted (kit : Bool) (R : Type 0) (fr : Frame) (t : List Parent) (l : Layers) (fr' : Frame) (ph' : Phase) (t' : List Parent) : Type 0 where
  pub moves : Moves kit R l (flags_of fr t) (flags_of fr' t')
  pub lowest_is : lowest fr' t' ≡ lowest fr t
  pub closed : LayerIsClosed ph' fr'.recorded
  pub onward : (u : Place) → LeftOf u (point fr) → LeftOf u (point fr')

-- an instance leaves, and its parent goes on
pub left_parent : (fr : Frame) (p : Parent) → IsChild fr.instance p.frame → (u : Place) → LeftOf u (point fr) → LeftOf u (point p.frame)
left_parent fr p h u l =
    let q : point fr ≡ p.frame.instance ++ h.number ∷ fr.next ∷ [] = ap (λ n. n ++ fr.next ∷ []) h.is ∙ append_assoc p.frame.instance (h.number ∷ []) (fr.next ∷ []) in
    left_on u p.frame.instance h.number p.frame.next (fr.next ∷ []) [] h.counted (subst (LeftOf u) q l)

-- a strand is paused at a sync of its entry alone
abbrev pub PausedAt : Start → Frame → Pause → Type 0
PausedAt m fr at_sync = is_entry m fr.instance ≡ true
PausedAt m fr at_spawn = Unit {0}
PausedAt m fr returned = Unit {0}
PausedAt m fr faulted = Unit {0}

abbrev pub Shifts : Start → Bool → Type 0 → Frame → List Parent → Step → Type 0
Shifts m kit R fr t (moved l evs fr' ph' t') = Shifted kit R fr t l fr' ph' t'
Shifts m kit R fr t (taken evs k fr' ph' t') = Shifted kit R fr t noting fr' ph' t'
Shifts m kit R fr t (paused p) = PausedAt m fr p

pub lowest_frame : (fr fr' : Frame) (t : List Parent) → fr'.instance ≡ fr.instance → lowest fr' t ≡ lowest fr t
lowest_frame fr fr' [] e = e
lowest_frame fr fr' (p ∷ t) e = refl

module _ (m : Start) (kit : Bool) (R : Type 0) (fr : Frame) (t : List Parent) where
  led_shifts : (es : Log) (s : Step) → Shifts m kit R fr t s → Shifts m kit R fr t (led_step es s)
  led_shifts es (moved l evs fr' ph' t') h = h
  led_shifts es (taken evs k fr' ph' t') h = h
  led_shifts es (paused p) h = h

  unless_shifts : (b : Bool) (s : Step) → is_entry m fr.instance ≡ b → (b ≡ false → Shifts m kit R fr t s) → Shifts m kit R fr t (unless b s)
  unless_shifts true s e h = e
  unless_shifts false s e h = h refl

  on_answer_shifts : {A : Type 0} (site : Site) (r : Result A FaultKind) (next : A → Step) → ((a : A) → Shifts m kit R fr t (next a)) → Shifts m kit R fr t (on_answer fr t site r next)
  on_answer_shifts site (Ok a) next h = h a
  on_answer_shifts site (Err k) next h = record { moves = same; lowest_is = refl; closed = tt; onward = λ u h. h }

  value_shifts : {A : Type 0} (site : Site) (o : Out FaultKind A) (next : A → Step) → ((a : A) → Shifts m kit R fr t (next a)) → Shifts m kit R fr t (on_value fr t site o next)
  value_shifts site o next h = led_shifts o.log (on_answer fr t site o.answer next) (on_answer_shifts site o.answer next h)

  depth_shifts : (site : Site) (d : ℕ) (next : ℕ → Step) → ((d : ℕ) → Shifts m kit R fr t (next d)) → Shifts m kit R fr t (on_depth fr t site d next)
  depth_shifts site zero next h = record { moves = same; lowest_is = refl; closed = tt; onward = λ u h. h }
  depth_shifts site (suc d) next h = h d

  cond_shifts : (b : Bool) (x y : Step) → Shifts m kit R fr t x → Shifts m kit R fr t y → Shifts m kit R fr t (cond b x y)
  cond_shifts true x y h k = h
  cond_shifts false x y h k = k

has_kit : (a kit : Bool) → a && kit ≡ true → kit ≡ true
has_kit true kit e = e
has_kit false kit e = absurd cc

module _ (program : Tree) (tables : Tables) (lookup : Lookup) (kit : Bool) (acc : Accumulators) (m : Start) (R : Type 0) where
  -- an instance that stands there enters
  enters_with : (b : Bool) → (b ≡ true → kit ≡ true) → (fr : Frame) (t : List Parent) (ph : Phase) → LayerIsClosed ph b → R → fr.recorded ≡ false → Shifted kit R fr t (layer_of program tables lookup kit acc b) (with_layer b fr) ph t
  enters_with true k fr t ph c r e =
      record { moves = subst (λ w. Moves kit R opening_one (w ∷ under_flags t) (true ∷ under_flags t)) (sym e) (entered r (k refl)); lowest_is = lowest_frame fr (with_layer true fr) t refl; closed = c; onward = λ u h. h }
  enters_with false k fr t ph c r e =
      record { moves = subst (λ w. Moves kit R noting (w ∷ under_flags t) (false ∷ under_flags t)) (sym e) same; lowest_is = lowest_frame fr (with_layer false fr) t refl; closed = c; onward = λ u h. h }

  by_shifts : (o : Option Kept) (fr : Frame) (f : Name) (vs : List ℤ) (t : List Parent) → R → fr.recorded ≡ false → Shifts m kit R fr t (enter_by program tables lookup kit acc o fr f vs t)
  by_shifts (Some k) fr f vs t r e = record { moves = same; lowest_is = refl; closed = e; onward = λ u h. h }
  by_shifts None fr f vs t r e = enters_with ((proc_of program f).memo && kit) (has_kit (proc_of program f).memo kit) fr t _ tt r e

  enter_shifts : (fr : Frame) (child : Child) (t : List Parent) → R → fr.recorded ≡ false → Shifts m kit R fr t (enter_step program tables lookup kit acc fr child t)
  enter_shifts fr (instance f vs) t r e = by_shifts (memo_answer lookup (proc_of program f).memo f vs (depth_limit - fr.left)) fr f vs t r e
  enter_shifts fr (half k job count i) t r e = record { moves = same; lowest_is = refl; closed = tt; onward = λ u h. h }

  -- a child is put on the stack and enters
  calls_with : (b : Bool) → (b ≡ true → kit ≡ true) → (fr fr' : Frame) (p : Parent) (t : List Parent) (ph : Phase) → LayerIsClosed ph b → p.frame.recorded ≡ fr.recorded → lowest p.frame t ≡ lowest fr t → ((u : Place) → LeftOf u (point fr) → LeftOf u (point fr')) → Shifted kit R fr t (layer_of program tables lookup kit acc b) (with_layer b fr') ph (p ∷ t)
  calls_with true k fr fr' p t ph c e q on =
      record { moves = subst (λ w. Moves kit R opening_one (fr.recorded ∷ under_flags t) (true ∷ w ∷ under_flags t)) (sym e) (recorded (k refl)); lowest_is = q; closed = c; onward = on }
  calls_with false k fr fr' p t ph c e q on =
      record { moves = subst (λ w. Moves kit R noting (fr.recorded ∷ under_flags t) (false ∷ w ∷ under_flags t)) (sym e) called; lowest_is = q; closed = c; onward = on }

  call_by : (o : Option Kept) (fr fr' : Frame) (p : Parent) (f : Name) (vs : List ℤ) (t : List Parent) → fr'.recorded ≡ false → p.frame.recorded ≡ fr.recorded → lowest p.frame t ≡ lowest fr t → ((u : Place) → LeftOf u (point fr) → LeftOf u (point fr')) → Shifts m kit R fr t (enter_by program tables lookup kit acc o fr' f vs (p ∷ t))
  call_by (Some k) fr fr' p f vs t n e q on =
      record { moves = subst (λ w. Moves kit R noting (fr.recorded ∷ under_flags t) (w ∷ p.frame.recorded ∷ under_flags t)) (sym n) (subst (λ w. Moves kit R noting (fr.recorded ∷ under_flags t) (false ∷ w ∷ under_flags t)) (sym e) called); lowest_is = q; closed = n; onward = on }
  call_by None fr fr' p f vs t n e q on = calls_with ((proc_of program f).memo && kit) (has_kit (proc_of program f).memo kit) fr fr' p t _ tt e q on

  child_shifts : (fr : Frame) (d : ℕ) (spawned : Bool) (x : Option ℕ) (child : Child) (todo : Todo) (t : List Parent) → Shifts m kit R fr t (enter_child program tables lookup kit acc fr d spawned x child todo t)
  child_shifts fr d spawned x (instance f vs) todo t =
      let fr' = opened program d (instance f vs) (child_name fr) in
      call_by (memo_answer lookup (proc_of program f).memo f vs (depth_limit - d)) fr fr' (awaiting fr spawned x todo) f vs t refl refl (lowest_frame fr (awaiting fr spawned x todo).frame t refl) (λ u h. left_longer u (point fr) (1 ∷ []) h)
  child_shifts fr d spawned x (half k job count i) todo t = record { moves = called; lowest_is = lowest_frame fr (awaiting fr spawned x todo).frame t refl; closed = tt; onward = λ u h. left_longer u (point fr) (1 ∷ []) h }

  stays : (fr fr' : Frame) (ph : Phase) (t : List Parent) → fr'.instance ≡ fr.instance → fr'.recorded ≡ fr.recorded → point fr' ≡ point fr → LayerIsClosed ph fr'.recorded → Shifted kit R fr t noting fr' ph t
  stays fr fr' ph t e q w c = record { moves = subst (λ w. Moves kit R noting (fr.recorded ∷ under_flags t) (w ∷ under_flags t)) (sym q) same; lowest_is = lowest_frame fr fr' t e; closed = c; onward = λ u h. subst (LeftOf u) (sym w) h }

  todo_shifts : (fr : Frame) (todo : Todo) (t : List Parent) → Shifts m kit R fr t (todo_step program tables lookup kit acc m fr todo t)
  todo_shifts fr (blocks []) t = stays fr fr _ t refl refl refl tt
  todo_shifts fr (blocks (end ∷ bs)) t = stays fr fr _ t refl refl refl tt
  todo_shifts fr (blocks (step s sync b ∷ bs)) t = unless_shifts m kit R fr t (is_entry m fr.instance) _ refl (λ q. stays fr fr _ t refl refl refl tt)
  todo_shifts fr (blocks (step s (bind x e) b ∷ bs)) t = value_shifts m kit R fr t _ (value tables (map seen fr.env) e) _ (λ v. stays fr _ _ t refl refl refl tt)
  todo_shifts fr (blocks (step s (enter x Call f es) b ∷ bs)) t =
      value_shifts m kit R fr t _ (values tables (map seen fr.env) es) _ (λ vs. depth_shifts m kit R fr t _ fr.left _ (λ d. child_shifts fr d false x (instance f vs) (blocks (b ∷ bs)) t))
  todo_shifts fr (blocks (step s (enter x Spawn f es) b ∷ bs)) t =
      value_shifts m kit R fr t _ (values tables (map seen fr.env) es) _ (λ vs. depth_shifts m kit R fr t _ fr.left _ (λ d. stays fr fr _ t refl refl refl tt))
  todo_shifts fr (blocks (step s (read x r) b ∷ bs)) t = stays fr _ _ t refl refl refl tt
  todo_shifts fr (blocks (step s (update r es) b ∷ bs)) t = value_shifts m kit R fr t _ (update_of tables (reducers program) (map seen fr.env) r es) _ (λ u. stays fr fr _ t refl refl refl tt)
  todo_shifts fr (blocks (step s (choose e x y) b ∷ bs)) t = value_shifts m kit R fr t _ (value tables (map seen fr.env) e) _ (λ v. stays fr fr _ t refl refl refl tt)
  todo_shifts fr (blocks (step s (loop x e e' grain f es) b ∷ bs)) t =
      value_shifts m kit R fr t _ (bounds tables (map seen fr.env) e e') _ (λ range. child_shifts fr fr.left false None (half halvings (job_of (record { procedure = fr.here; statement = s }) (map seen fr.env) x f es grain range.0) range.1 0) (blocks (b ∷ bs)) t)
  todo_shifts fr (blocks (step s (give e) b ∷ bs)) t = value_shifts m kit R fr t _ (value tables (map seen fr.env) e) _ (λ v. stays fr fr _ t refl refl refl tt)
  todo_shifts fr (halves zero job count i) t = stays fr fr _ t refl refl refl tt
  todo_shifts fr (halves (suc k) job count i) t = cond_shifts m kit R fr t (nat_le count job.grain) _ _ (stays fr fr _ t refl refl refl tt) (stays fr fr _ t refl refl refl tt)
  todo_shifts fr (second k job count i) t = child_shifts fr fr.left false None (half k job count i) (blocks []) t
  todo_shifts fr (turns job zero i) t = stays fr fr _ t refl refl refl tt
  todo_shifts fr (turns job (suc count) i) t =
      value_shifts m kit R fr t job.site (turn_values tables job i) _ (λ vs. depth_shifts m kit R fr t job.site fr.left _ (λ d. child_shifts fr d false None (instance job.callee vs) (turns job count (suc i)) t))

  returns_with : (b : Bool) (fr : Frame) (v : ℤ) (t : List Parent) → R → fr.recorded ≡ b → Shifted kit R fr t (leaving_layer program tables lookup kit acc b) (with_layer false fr) (leaving v) t
  returns_with true fr v t r e =
      record { moves = subst (λ w. Moves kit R closing_one (w ∷ under_flags t) (false ∷ under_flags t)) (sym e) (closes r); lowest_is = lowest_frame fr (with_layer false fr) t refl; closed = refl; onward = λ u h. h }
  returns_with false fr v t r e =
      record { moves = subst (λ w. Moves kit R noting (w ∷ under_flags t) (false ∷ under_flags t)) (sym e) same; lowest_is = lowest_frame fr (with_layer false fr) t refl; closed = refl; onward = λ u h. h }

  -- the topmost instance was entered since the strand began where it enters, returns past its last sync, or leaves
  abbrev pub IsNear : Frame → Phase → Type 0
  IsNear fr (entering child) = R × (fr.recorded ≡ false)
  IsNear fr (running todo) = Unit {0}
  IsNear fr (spawning d x child todo) = Unit {0}
  IsNear fr (returning v) = is_entry m fr.instance ≡ false → R
  IsNear fr (leaving v) = R × (fr.recorded ≡ false)
  IsNear fr (broken k) = Unit {0}

  pub micro_shifts : (fr : Frame) (ph : Phase) (t : List Parent) → IsNear fr ph → Stacked fr.instance t → Shifts m kit R fr t (micro program tables lookup kit acc m fr ph t)
  micro_shifts fr (entering child) t h st = enter_shifts fr child t h.0 h.1
  micro_shifts fr (running todo) t h st = todo_shifts fr todo t
  micro_shifts fr (spawning d x child todo) t h st = tt
  micro_shifts fr (returning v) t h st = unless_shifts m kit R fr t (is_entry m fr.instance) _ refl (λ q. returns_with fr.recorded fr v t (h q) refl)
  micro_shifts fr (leaving v) [] h st = tt
  micro_shifts fr (leaving v) (p ∷ t) h st =
      record { moves = subst (λ w. Moves kit R noting (w ∷ p.frame.recorded ∷ under_flags t) (p.frame.recorded ∷ under_flags t)) (sym h.1) (leaves h.0); lowest_is = lowest_frame p.frame (with_value p v) t refl; closed = tt; onward = left_parent fr p st.0 }
  micro_shifts fr (broken k) t h st = tt

-- ---- lengths

long_name : (m : Place) (k c : ℕ) (path : Place) → length (m ++ k ∷ []) ≤ length (m ++ c ∷ path)
long_name [] k c path = omega arith
long_name (a ∷ m) k c path = let h : length (m ++ k ∷ []) ≤ length (m ++ c ∷ path) = long_name m k c path in omega arith

pub higher_long : (m : Start) (n : Place) → Higher m n → length (place_of_start m) ≤ length n
higher_long root n h = omega arith
higher_long (behind m k) n h = rw h.is (long_name m k h.child h.path)

pub spot_long : (m : Start) (n : Place) (c : ℕ) → Spot m n c → is_entry m n ≡ false → length (place_of_start m) ≤ length n
spot_long m n c h e = higher_long m n (spot_above m n c h e)

pub child_long : (n : Place) (c : ℕ) → length (child_of n c) ≡ suc (length n)
child_long n c = let h : length (n ++ c ∷ []) ≡ length n + 1 = length-append n (c ∷ []) in omega arith

pub stacked_long : (fr : Frame) (t : List Parent) → Stacked fr.instance t → length (under_flags t) + length (lowest fr t) ≡ length fr.instance
stacked_long fr [] h = omega arith
stacked_long fr (p ∷ t) h =
    let a : length (under_flags t) + length (lowest p.frame t) ≡ length p.frame.instance = stacked_long p.frame t h.1 in
    let b : length fr.instance ≡ suc (length p.frame.instance) = ap length h.0.is ∙ child_long p.frame.instance h.0.number in
    omega arith
