-- A small step needs no flag but that of an instance that returns above the strand's entry.
use Rattle.std.proofs.Common.{◌-◌, ◌&&◌, ℕ, zero, suc, List, [], ◌∷◌, map, Option, Some, None, Result, Ok, Err, ℤ, ◌≡◌, refl, sym, ap, ◌∙◌, true, false, Bool, cond}
use Rattle.std.specs.Prelude.{nat_le, slice_set}
use Rattle.meaning.specs.Tree.{Name, bind, enter, read, sync, update, choose, loop, give, end, step, Tree}
use Rattle.meaning.specs.declared.tree.Way.TheVariants.{Call, Spawn}
use Rattle.meaning.specs.declared.FaultKind.{FaultKind}
use Rattle.meaning.specs.Tables.{Tables}
use Rattle.meaning.specs.Outcome.{Log, Accumulators, Site, Out, Syncs}
use Rattle.meaning.specs.Values.{value, values}
use Rattle.meaning.specs.Statements.{reducers, numbered, reading, job_of, proc_of, update_of, bounds, turn_values}
use Rattle.meaning.specs.Elision.{depth_limit}
use Rattle.meaning.specs.Records.{Revised, Kept}
use Rattle.meaning.specs.Trail.{halvings, fault_at, opening}
use Rattle.meaning.specs.SmallStep.{seen, Start, is_entry, Frame, Todo, blocks, halves, second, turns, Child, instance, half, Phase, entering, running, spawning, returning, leaving, broken, Parent, Layers, noting, opening_one, closing_one, Step, moved, taken, paused, led_step, unless, on_answer, on_value, on_depth, Lookup, look_of, memo_answer, opened, child_name, awaiting, has, with_env, first_todo, with_layer, layer_of, enter_by, leaving_layer, enter_step, enter_child, todo_step, micro}
use Rattle.meaning.specs.Layers.{Notes}
use Rattle.meaning.specs.Tallies.{Opened, Tally, executions, opened_all, tallied}
use Rattle.trail_theory.specs.Right.{Sees}
use Rattle.trail_theory.specs.OwnLayers.{TopTest, frame_by}
use Rattle.trail_theory.specs.Unflagged.{unflagged_parent, unflagged_under, unflagged_step}

unflagged_twice : (t : List Parent) → unflagged_under (unflagged_under t) ≡ unflagged_under t
unflagged_twice [] = refl
unflagged_twice (p ∷ t) = ap (λ u. unflagged_parent p ∷ u) (unflagged_twice t)

led_alike : (es : Log) (s : Step) → unflagged_step (led_step es s) ≡ led_step es (unflagged_step s)
led_alike es (moved l evs fr ph t) = refl
led_alike es (taken evs k fr ph t) = refl
led_alike es (paused p) = refl

unless_alike : (b : Bool) (s' s : Step) → unflagged_step s' ≡ unflagged_step s → unflagged_step (unless b s') ≡ unflagged_step (unless b s)
unless_alike true s' s h = refl
unless_alike false s' s h = h

cond_alike : (b : Bool) (x' y' x y : Step) → unflagged_step x' ≡ unflagged_step x → unflagged_step y' ≡ unflagged_step y → unflagged_step (cond b x' y') ≡ unflagged_step (cond b x y)
cond_alike true x' y' x y h k = h
cond_alike false x' y' x y h k = k

-- two stacks that differ in flags alone
module _ (t' t : List Parent) (same : unflagged_under t' ≡ unflagged_under t) where
  goes : (l : Layers) (evs : Log) (fr : Frame) (ph : Phase) → moved l evs fr ph (unflagged_under t') ≡ moved l evs fr ph (unflagged_under t)
  goes l evs fr ph = ap (λ u. moved l evs fr ph u) same

  on_answer_alike : {A : Type 0} (b : Bool) (fr : Frame) (site : Site) (r : Result A FaultKind) (next' next : A → Step) → ((a : A) → unflagged_step (next' a) ≡ unflagged_step (next a)) → unflagged_step (on_answer (with_layer b fr) t' site r next') ≡ unflagged_step (on_answer fr t site r next)
  on_answer_alike b fr site (Ok a) next' next h = h a
  on_answer_alike b fr site (Err k) next' next h = goes noting [] (with_layer false fr) (broken (fault_at site k))

  value_alike : {A : Type 0} (b : Bool) (fr : Frame) (site : Site) (o : Out FaultKind A) (next' next : A → Step) → ((a : A) → unflagged_step (next' a) ≡ unflagged_step (next a)) → unflagged_step (on_value (with_layer b fr) t' site o next') ≡ unflagged_step (on_value fr t site o next)
  value_alike b fr site o next' next h =
      led_alike o.log (on_answer (with_layer b fr) t' site o.answer next')
      ∙ ap (led_step o.log) (on_answer_alike b fr site o.answer next' next h)
      ∙ sym (led_alike o.log (on_answer fr t site o.answer next))

  depth_alike : (b : Bool) (fr : Frame) (site : Site) (d : ℕ) (next' next : ℕ → Step) → ((e : ℕ) → unflagged_step (next' e) ≡ unflagged_step (next e)) → unflagged_step (on_depth (with_layer b fr) t' site d next') ≡ unflagged_step (on_depth fr t site d next)
  depth_alike b fr site zero next' next h = goes _ _ _ _
  depth_alike b fr site (suc e) next' next h = h e

-- what reads give is asked for at a read alone
module _ (program : Tree) (tables : Tables) (lookup : Lookup) (kit : Bool) (acc' acc : Accumulators) where
  opening_same : (b : Bool) → layer_of program tables lookup kit acc' b ≡ layer_of program tables lookup kit acc b
  opening_same true = refl
  opening_same false = refl

  leaving_same : (b : Bool) → leaving_layer program tables lookup kit acc' b ≡ leaving_layer program tables lookup kit acc b
  leaving_same true = refl
  leaving_same false = refl

  by_alike : (t' t : List Parent) → unflagged_under t' ≡ unflagged_under t → (b : Bool) (fr : Frame) (o : Option Kept) (f : Name) (vs : List ℤ)
      → unflagged_step (enter_by program tables lookup kit acc' o (with_layer b fr) f vs t') ≡ unflagged_step (enter_by program tables lookup kit acc o fr f vs t)
  by_alike t' t same b fr (Some k) f vs = ap (λ u. taken [] k (with_layer false fr) (leaving k.value) u) same
  by_alike t' t same b fr None f vs =
      ap (λ l. moved l (opening program (look_of lookup) fr.left f vs fr.instance) (with_layer false fr) (running (first_todo program (instance f vs))) (unflagged_under t')) (opening_same ((proc_of program f).memo && kit))
      ∙ goes t' t same _ _ _ _

  enter_alike : (t' t : List Parent) → unflagged_under t' ≡ unflagged_under t → (b : Bool) (fr : Frame) (child : Child)
      → unflagged_step (enter_step program tables lookup kit acc' (with_layer b fr) child t') ≡ unflagged_step (enter_step program tables lookup kit acc fr child t)
  enter_alike t' t same b fr (instance f vs) = by_alike t' t same b fr (memo_answer lookup (proc_of program f).memo f vs (depth_limit - fr.left)) f vs
  enter_alike t' t same b fr (half k job count i) = goes t' t same _ _ _ _

  module _ (m : Start) (b : Bool) (fr : Frame) (t' t : List Parent) (same : unflagged_under t' ≡ unflagged_under t) where
    child_alike : (d : ℕ) (spawned : Bool) (x : Option ℕ) (child : Child) (todo : Todo)
        → unflagged_step (enter_child program tables lookup kit acc' (with_layer b fr) d spawned x child todo t') ≡ unflagged_step (enter_child program tables lookup kit acc fr d spawned x child todo t)
    child_alike d spawned x child todo =
        enter_alike (awaiting (with_layer b fr) spawned x todo ∷ t') (awaiting fr spawned x todo ∷ t) (ap (λ u. unflagged_parent (awaiting fr spawned x todo) ∷ u) same) false (opened program d child (child_name fr)) child

    todo_alike : (todo : Todo) → Sees acc' acc (running todo) → unflagged_step (todo_step program tables lookup kit acc' m (with_layer b fr) todo t') ≡ unflagged_step (todo_step program tables lookup kit acc m fr todo t)
    todo_alike (blocks []) h = goes t' t same _ _ _ _
    todo_alike (blocks (end ∷ bs)) h = goes t' t same _ _ _ _
    todo_alike (blocks (step s sync c ∷ bs)) h = unless_alike (is_entry m fr.instance) _ _ (goes t' t same _ _ _ _)
    todo_alike (blocks (step s (bind x e) c ∷ bs)) h = value_alike t' t same b fr _ (value tables (map seen fr.env) e) _ _ (λ v. goes t' t same _ _ _ _)
    todo_alike (blocks (step s (enter x Call f es) c ∷ bs)) h =
        value_alike t' t same b fr _ (values tables (map seen fr.env) es) _ _ (λ vs. depth_alike t' t same b fr _ fr.left _ _ (λ d. child_alike d false x (instance f vs) (blocks (c ∷ bs))))
    todo_alike (blocks (step s (enter x Spawn f es) c ∷ bs)) h =
        value_alike t' t same b fr _ (values tables (map seen fr.env) es) _ _ (λ vs. depth_alike t' t same b fr _ fr.left _ _ (λ d. goes t' t same _ _ _ _))
    todo_alike (blocks (step s (read x r) c ∷ bs)) h =
        ap (λ a. moved noting [] (with_layer false (with_env fr (slice_set fr.env x (has (reading a (numbered 0 (reducers program) r)))))) (running (blocks (c ∷ bs))) (unflagged_under t')) h ∙ goes t' t same _ _ _ _
    todo_alike (blocks (step s (update r es) c ∷ bs)) h = value_alike t' t same b fr _ (update_of tables (reducers program) (map seen fr.env) r es) _ _ (λ u. goes t' t same _ _ _ _)
    todo_alike (blocks (step s (choose e x y) c ∷ bs)) h = value_alike t' t same b fr _ (value tables (map seen fr.env) e) _ _ (λ v. goes t' t same _ _ _ _)
    todo_alike (blocks (step s (loop x e e' grain f es) c ∷ bs)) h =
        value_alike t' t same b fr _ (bounds tables (map seen fr.env) e e') _ _ (λ range. child_alike fr.left false None (half halvings (job_of (record { procedure = fr.here; statement = s }) (map seen fr.env) x f es grain range.0) range.1 0) (blocks (c ∷ bs)))
    todo_alike (blocks (step s (give e) c ∷ bs)) h = value_alike t' t same b fr _ (value tables (map seen fr.env) e) _ _ (λ v. goes t' t same _ _ _ _)
    todo_alike (halves zero job count i) h = goes t' t same _ _ _ _
    todo_alike (halves (suc k) job count i) h = cond_alike (nat_le count job.grain) _ _ _ _ (goes t' t same _ _ _ _) (goes t' t same _ _ _ _)
    todo_alike (second k job count i) h = child_alike fr.left false None (half k job count i) (blocks [])
    todo_alike (turns job zero i) h = goes t' t same _ _ _ _
    todo_alike (turns job (suc count) i) h =
        value_alike t' t same b fr job.site (turn_values tables job i) _ _ (λ vs. depth_alike t' t same b fr job.site fr.left _ _ (λ d. child_alike d false None (instance job.callee vs) (turns job count (suc i))))

  returns_alike : (at_entry r' r : Bool) (fr : Frame) (v : ℤ) (t : List Parent) → (at_entry ≡ false → r' ≡ r)
      → unflagged_step (unless at_entry (moved (leaving_layer program tables lookup kit acc' r') (Syncs fr.instance ∷ []) (with_layer false fr) (leaving v) (unflagged_under t)))
      ≡ unflagged_step (unless at_entry (moved (leaving_layer program tables lookup kit acc r) (Syncs fr.instance ∷ []) (with_layer false fr) (leaving v) t))
  returns_alike true r' r fr v t h = refl
  returns_alike false r' r fr v t h =
      ap (λ l. moved l (Syncs fr.instance ∷ []) (with_layer false fr) (leaving v) (unflagged_under (unflagged_under t))) (leaving_same r' ∙ ap (leaving_layer program tables lookup kit acc) (h refl))
      ∙ goes (unflagged_under t) t (unflagged_twice t) _ _ _ _

  -- an instance that returns has the flag that the test gives it, and no other has one; at a read the same is read
  pub micro_alike : (test : TopTest) (os : List Opened) (m : Start) (fr : Frame) (ph : Phase) (t : List Parent) → (is_entry m fr.instance ≡ false → frame_by test ph os fr ≡ fr) → Sees acc' acc ph
      → unflagged_step (micro program tables lookup kit acc' m (frame_by test ph os (with_layer false fr)) ph (unflagged_under t)) ≡ unflagged_step (micro program tables lookup kit acc m fr ph t)
  micro_alike test os m fr (entering child) t h r = enter_alike (unflagged_under t) t (unflagged_twice t) false fr child
  micro_alike test os m fr (running todo) t h r = todo_alike m false fr (unflagged_under t) t (unflagged_twice t) todo r
  micro_alike test os m fr (spawning d x child todo) t h r = refl
  micro_alike test os m fr (returning v) t h r = returns_alike (is_entry m fr.instance) (test os fr.instance) fr.recorded fr v t (λ e. ap (λ (f : Frame). f.recorded) (h e))
  micro_alike test os m fr (leaving v) [] h r = refl
  micro_alike test os m fr (leaving v) (p ∷ t) h r = goes (unflagged_under t) t (unflagged_twice t) _ _ _ _
  micro_alike test os m fr (broken k) t h r = refl

-- ---- what a step counts

opened_alike : (fr : Frame) (ks : List (Name × List ℤ)) (y : Tally) → opened_all (with_layer false fr) ks y ≡ opened_all fr ks y
opened_alike fr [] y = refl
opened_alike fr (k ∷ ks) y = opened_alike fr ks _

pub tallied_alike : (program : Revised) (ls : List Notes) (st : Step) (y : Tally) → tallied program ls (unflagged_step st) y ≡ tallied program ls st y
tallied_alike program ls (moved noting evs fr ph t) y = refl
tallied_alike program ls (moved opening_one evs fr ph t) y = opened_alike fr (executions evs) y
tallied_alike program ls (moved closing_one evs fr ph t) y = refl
tallied_alike program ls (taken evs k fr ph t) y = refl
tallied_alike program ls (paused p) y = refl
