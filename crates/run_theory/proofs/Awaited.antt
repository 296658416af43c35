-- A small step makes no name wait.
use Rattle.std.proofs.Common.{◌-◌, ℕ, zero, suc, List, [], ◌∷◌, Option, Some, None, Result, Ok, Err, ℤ, ◌≡◌, true, false, Bool, cond, map}
use Rattle.std.specs.Prelude.{nat_le}
use Rattle.meaning.specs.Tree.{Name, bind, enter, read, sync, update, choose, loop, give, end, step, Tree}
use Rattle.meaning.specs.declared.tree.Way.TheVariants.{Call, Spawn}
use Rattle.meaning.specs.declared.FaultKind.{FaultKind}
use Rattle.meaning.specs.Tables.{Tables}
use Rattle.meaning.specs.Outcome.{Log, Accumulators, Place, Site, Out}
use Rattle.meaning.specs.Values.{value, values}
use Rattle.meaning.specs.Statements.{reducers, job_of, proc_of, update_of, bounds, turn_values}
use Rattle.meaning.specs.Elision.{depth_limit}
use Rattle.meaning.specs.Records.{Kept}
use Rattle.meaning.specs.Trail.{halvings}
use Rattle.meaning.specs.SmallStep.{seen, Start, is_entry, Frame, Todo, blocks, halves, second, turns, Child, instance, half, Phase, entering, running, spawning, returning, leaving, broken, Parent, Step, moved, taken, paused, led_step, unless, on_answer, on_value, on_depth, Lookup, memo_answer, opened, child_name, awaiting, enter_by, enter_step, enter_child, todo_step, micro}
use Rattle.run_theory.specs.RightRuns.{count}
use Rattle.meaning.specs.SmallStep.{Continuation, Slot, waits, has, slot, set_into, env_of}
use Rattle.std.specs.Prelude.{slice_set}
use Rattle.trail_theory.specs.Order.{Every}

-- each slot that waits for a child of the instance is as P says
abbrev pub SlotsWait : (Place → ℕ → Type 0) → Place → List Slot → Type 0
SlotsWait P n env = Every (λ s. (j : ℕ) → s ≡ waits j → P n j) env

abbrev pub UnderWait : (Place → ℕ → Type 0) → List Parent → Type 0
UnderWait P [] = Unit {0}
UnderWait P (p ∷ t) = SlotsWait P p.frame.instance p.frame.env × UnderWait P t

abbrev pub StackWaits : (Place → ℕ → Type 0) → Frame → List Parent → Type 0
StackWaits P fr t = SlotsWait P fr.instance fr.env × UnderWait P t

abbrev pub DequeWaits : (Place → ℕ → Type 0) → List Continuation → Type 0
DequeWaits P [] = Unit {0}
DequeWaits P (k ∷ ks) = StackWaits P k.parent.frame k.under × DequeWaits P ks

module _ (P : Place → ℕ → Type 0) (n : Place) where
  pub set_slot : (env : List Slot) (x : ℕ) (s : Slot) → SlotsWait P n env → ((j : ℕ) → s ≡ waits j → P n j) → SlotsWait P n (slice_set env x s)
  set_slot [] x s h k = tt
  set_slot (e ∷ env) zero s h k = (k, h.1)
  set_slot (e ∷ env) (suc x) s h k = (h.0, set_slot env x s h.1 k)

  pub set_value : (env : List Slot) (x : ℕ) (v : ℤ) → SlotsWait P n env → SlotsWait P n (slice_set env x (has v))
  set_value env x v h = set_slot env x (has v) h (λ j e. cc)

  pub into_slot : (env : List Slot) (x : Option ℕ) (s : Slot) → SlotsWait P n env → ((j : ℕ) → s ≡ waits j → P n j) → SlotsWait P n (set_into env x s)
  into_slot env None s h k = h
  into_slot env (Some x) s h k = set_slot env x s h k

  pub new_slots : (E : List (Option ℤ)) → SlotsWait P n (map slot E)
  new_slots [] = tt
  new_slots (None ∷ E) = (λ j e. cc, new_slots E)
  new_slots (Some v ∷ E) = (λ j e. cc, new_slots E)

module _ (P : Place → ℕ → Type 0) where
  abbrev pub StepWaits : Step → Type 0
  StepWaits (moved l evs fr ph t) = StackWaits P fr t
  StepWaits (taken evs k fr ph t) = StackWaits P fr t
  StepWaits (paused p) = Unit {0}

  led_waits : (es : Log) (s : Step) → StepWaits s → StepWaits (led_step es s)
  led_waits es (moved l evs fr ph t) h = h
  led_waits es (taken evs k fr ph t) h = h
  led_waits es (paused p) h = h

  unless_waits : (b : Bool) (s : Step) → StepWaits s → StepWaits (unless b s)
  unless_waits true s h = tt
  unless_waits false s h = h

  on_answer_waits : {A : Type 0} (fr : Frame) (t : List Parent) (site : Site) (r : Result A FaultKind) (next : A → Step) → StackWaits P fr t → ((a : A) → StepWaits (next a)) → StepWaits (on_answer fr t site r next)
  on_answer_waits fr t site (Ok a) next c h = h a
  on_answer_waits fr t site (Err k) next c h = c

  value_waits : {A : Type 0} (fr : Frame) (t : List Parent) (site : Site) (o : Out FaultKind A) (next : A → Step) → StackWaits P fr t → ((a : A) → StepWaits (next a)) → StepWaits (on_value fr t site o next)
  value_waits fr t site o next c h = led_waits o.log (on_answer fr t site o.answer next) (on_answer_waits fr t site o.answer next c h)

  depth_waits : (fr : Frame) (t : List Parent) (site : Site) (d : ℕ) (next : ℕ → Step) → StackWaits P fr t → ((d : ℕ) → StepWaits (next d)) → StepWaits (on_depth fr t site d next)
  depth_waits fr t site zero next c h = c
  depth_waits fr t site (suc d) next c h = h d

  cond_waits : (b : Bool) (x y : Step) → StepWaits x → StepWaits y → StepWaits (cond b x y)
  cond_waits true x y h k = h
  cond_waits false x y h k = k

  module _ (program : Tree) (tables : Tables) (lookup : Lookup) (kit : Bool) (acc : Accumulators) where
    by_waits : (o : Option Kept) (fr : Frame) (f : Name) (vs : List ℤ) (t : List Parent) → StackWaits P fr t → StepWaits (enter_by program tables lookup kit acc o fr f vs t)
    by_waits (Some k) fr f vs t c = c
    by_waits None fr f vs t c = c

    enter_waits : (fr : Frame) (child : Child) (t : List Parent) → StackWaits P fr t → StepWaits (enter_step program tables lookup kit acc fr child t)
    enter_waits fr (instance f vs) t c = by_waits (memo_answer lookup (proc_of program f).memo f vs (depth_limit - fr.left)) fr f vs t c
    enter_waits fr (half k job count i) t c = c

    child_waits : (fr : Frame) (d : ℕ) (spawned : Bool) (x : Option ℕ) (child : Child) (todo : Todo) (t : List Parent) → StackWaits P fr t → StepWaits (enter_child program tables lookup kit acc fr d spawned x child todo t)
    child_waits fr d spawned x child todo t c = enter_waits (opened program d child (child_name fr)) child (awaiting fr spawned x todo ∷ t) (new_slots P (child_name fr) (env_of program child), c)

    todo_waits : (m : Start) (fr : Frame) (todo : Todo) (t : List Parent) → StackWaits P fr t → StepWaits (todo_step program tables lookup kit acc m fr todo t)
    todo_waits m fr (blocks []) t c = c
    todo_waits m fr (blocks (end ∷ bs)) t c = c
    todo_waits m fr (blocks (step s sync b ∷ bs)) t c = unless_waits (is_entry m fr.instance) _ c
    todo_waits m fr (blocks (step s (bind x e) b ∷ bs)) t c = value_waits fr t _ (value tables (map seen fr.env) e) _ c (λ v. (set_value P fr.instance fr.env x v c.0, c.1))
    todo_waits m fr (blocks (step s (enter x Call f es) b ∷ bs)) t c =
        value_waits fr t _ (values tables (map seen fr.env) es) _ c (λ vs. depth_waits fr t _ fr.left _ c (λ d. child_waits fr d false x (instance f vs) (blocks (b ∷ bs)) t c))
    todo_waits m fr (blocks (step s (enter x Spawn f es) b ∷ bs)) t c =
        value_waits fr t _ (values tables (map seen fr.env) es) _ c (λ vs. depth_waits fr t _ fr.left _ c (λ d. c))
    todo_waits m fr (blocks (step s (read x r) b ∷ bs)) t c = (set_value P fr.instance fr.env x _ c.0, c.1)
    todo_waits m fr (blocks (step s (update r es) b ∷ bs)) t c = value_waits fr t _ (update_of tables (reducers program) (map seen fr.env) r es) _ c (λ u. c)
    todo_waits m fr (blocks (step s (choose e x y) b ∷ bs)) t c = value_waits fr t _ (value tables (map seen fr.env) e) _ c (λ v. c)
    todo_waits m fr (blocks (step s (loop x e e' grain f es) b ∷ bs)) t c =
        value_waits fr t _ (bounds tables (map seen fr.env) e e') _ c (λ range. child_waits fr fr.left false None (half halvings (job_of (record { procedure = fr.here; statement = s }) (map seen fr.env) x f es grain range.0) range.1 0) (blocks (b ∷ bs)) t c)
    todo_waits m fr (blocks (step s (give e) b ∷ bs)) t c = value_waits fr t _ (value tables (map seen fr.env) e) _ c (λ v. c)
    todo_waits m fr (halves zero job count i) t c = c
    todo_waits m fr (halves (suc k) job count i) t c = cond_waits (nat_le count job.grain) _ _ c c
    todo_waits m fr (second k job count i) t c = child_waits fr fr.left false None (half k job count i) (blocks []) t c
    todo_waits m fr (turns job zero i) t c = c
    todo_waits m fr (turns job (suc count) i) t c =
        value_waits fr t job.site (turn_values tables job i) _ c (λ vs. depth_waits fr t job.site fr.left _ c (λ d. child_waits fr d false None (instance job.callee vs) (turns job count (suc i)) t c))

    pub micro_waits : (m : Start) (fr : Frame) (ph : Phase) (t : List Parent) → StackWaits P fr t → StepWaits (micro program tables lookup kit acc m fr ph t)
    micro_waits m fr (entering child) t c = enter_waits fr child t c
    micro_waits m fr (running todo) t c = todo_waits m fr todo t c
    micro_waits m fr (spawning d x child todo) t c = tt
    micro_waits m fr (returning v) t c = unless_waits (is_entry m fr.instance) _ c
    micro_waits m fr (leaving v) [] c = tt
    micro_waits m fr (leaving v) (p ∷ t) c = (into_slot P p.frame.instance p.frame.env p.into (has v) c.1.0 (λ j e. cc), c.1.1)
    micro_waits m fr (broken k) t c = tt
