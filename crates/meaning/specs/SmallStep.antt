-- One small step of a strand: what the topmost instance does next. It is a function of the program, the tables, the records
-- that answer, whether a kit is free, what `read` sees, where the strand begins, and its instances.
use Rattle.std.specs.Prelude.{ℕ, zero, suc, ◌+◌, ◌-◌, ◌/◌, nat_le, nat_eq, ℤ, pos, Bool, true, false, cond, ◌&&◌, List, [], ◌∷◌, ◌++◌, map}
use Rattle.std.specs.Prelude.{Option, Some, None, Result, Ok, Err, slice_set}
use Rattle.std.specs.Ordering.{int_eq}
use Rattle.meaning.specs.Tree.{Name, Deed, bind, enter, read, sync, update, choose, loop, give, Body, end, step, Tree}
use Rattle.meaning.specs.declared.tree.Way.TheVariants.{Call, Spawn}
use Rattle.meaning.specs.declared.FaultKind.{FaultKind}
use Rattle.meaning.specs.declared.FaultKind.TheVariants.{TooDeep}
use Rattle.meaning.specs.Tables.{Tables, is_there}
use Rattle.meaning.specs.Outcome.{Out, Log, Accumulators, Site, Fault, Place, Begins, Syncs, Leaves}
use Rattle.meaning.specs.Values.{Env, value, values}
use Rattle.meaning.specs.Statements.{reducers, proc_of, numbered, reading, fresh, Job, job_of, turn_values, update_of, bounds}
use Rattle.meaning.specs.Elision.{depth_limit}
use Rattle.meaning.specs.Records.{Kept}
use Rattle.meaning.specs.Trail.{child_of, fault_at, Look, opening, halvings}

-- a name's slot: nothing yet, the value of the child of that number is still out, a value
pub data Slot : Type 0 where
  unset : Slot
  waits : ℕ → Slot
  has : ℤ → Slot

abbrev pub seen : Slot → Option ℤ
seen unset = None
seen (waits j) = None
seen (has v) = Some v

abbrev pub slot : Option ℤ → Slot
slot None = unset
slot (Some v) = has v

-- where a strand begins: at the trail's beginning, or after the child `k` of the instance `m`
pub data Start : Type 0 where
  root : Start
  behind : Place → ℕ → Start

abbrev pub same_name : Place → Place → Bool
same_name [] [] = true
same_name [] (b ∷ n) = false
same_name (a ∷ m) [] = false
same_name (a ∷ m) (b ∷ n) = nat_eq a b && same_name m n

abbrev pub is_entry : Start → Place → Bool
is_entry root n = false
is_entry (behind m k) n = same_name m n

-- an instance: the depth left below it, its name, its next child's number, its procedure, its names, whether it has a layer
pub record Frame : Type 0 where
  pub left : ℕ
  pub instance : Place
  pub next : ℕ
  pub here : Name
  pub env : List Slot
  pub recorded : Bool

-- what an instance has left: the blocks, innermost first; a loop to be halved; its second half; iterations of a leaf
pub data Todo : Type 0 where
  blocks : List Body → Todo
  halves : ℕ → Job → ℕ → ℕ → Todo
  second : ℕ → Job → ℕ → ℕ → Todo
  turns : Job → ℕ → ℕ → Todo

-- what is entered: a procedure with its arguments, or a loop or half
pub data Child : Type 0 where
  instance : Name → List ℤ → Child
  half : ℕ → Job → ℕ → ℕ → Child

-- what the topmost instance does next
pub data Phase : Type 0 where
  entering : Child → Phase
  running : Todo → Phase
  spawning : ℕ → Option ℕ → Child → Todo → Phase
  returning : ℤ → Phase
  leaving : ℤ → Phase
  broken : Fault → Phase

pub record Parent : Type 0 where
  pub frame : Frame
  pub spawned : Bool
  pub into : Option ℕ
  pub todo : Todo

abbrev pub set_into : List Slot → Option ℕ → Slot → List Slot
set_into env None s = env
set_into env (Some x) s = slice_set env x s

abbrev pub with_env : Frame → List Slot → Frame
with_env fr env = record { left = fr.left; instance = fr.instance; next = fr.next; here = fr.here; env = env; recorded = fr.recorded }

abbrev pub with_value : Parent → ℤ → Frame
with_value p v = with_env p.frame (set_into p.frame.env p.into (has v))

abbrev pub child_name : Frame → Place
child_name fr = child_of fr.instance fr.next

abbrev pub stepped_past : Frame → Frame
stepped_past fr = record { left = fr.left; instance = fr.instance; next = suc fr.next; here = fr.here; env = fr.env; recorded = fr.recorded }

abbrev pub awaiting : Frame → Bool → Option ℕ → Todo → Parent
awaiting fr spawned x todo = record { frame = stepped_past fr; spawned = spawned; into = x; todo = todo }

pub data Pause : Type 0 where
  at_spawn at_sync returned faulted : Pause

-- what a step does to the layers: notes its events, and then opens or closes one
pub data Layers : Type 0 where
  noting opening_one closing_one : Layers

pub data Step : Type 0 where
  moved : Layers → Log → Frame → Phase → List Parent → Step
  taken : Log → Kept → Frame → Phase → List Parent → Step
  paused : Pause → Step

abbrev pub led_step : Log → Step → Step
led_step es (moved l evs fr ph t) = moved l (es ++ evs) fr ph t
led_step es (taken evs k fr ph t) = taken (es ++ evs) k fr ph t
led_step es (paused p) = paused p

abbrev pub unless : Bool → Step → Step
unless true s = paused at_sync
unless false s = s

abbrev pub on_answer : {A : Type 0} → Frame → List Parent → Site → Result A FaultKind → (A → Step) → Step
on_answer fr t site (Ok a) next = next a
on_answer fr t site (Err k) next = moved noting [] fr (broken (fault_at site k)) t

abbrev pub on_value : {A : Type 0} → Frame → List Parent → Site → Out FaultKind A → (A → Step) → Step
on_value fr t site o next = led_step o.log (on_answer fr t site o.answer next)

abbrev pub on_depth : Frame → List Parent → Site → ℕ → (ℕ → Step) → Step
on_depth fr t site zero next = moved noting [] fr (broken (fault_at site TooDeep)) t
on_depth fr t site (suc d) next = next d

-- the record that answers a key at a depth
abbrev pub Lookup : Type 0
Lookup = Name → List ℤ → ℕ → Option Kept

-- no record answers
abbrev pub nothing_kept : Lookup
nothing_kept f vs depth = None

abbrev pub look_of : Lookup → Look
look_of lookup = Some (λ f vs depth. is_there (lookup f vs depth))

abbrev pub memo_answer : Lookup → Bool → Name → List ℤ → ℕ → Option Kept
memo_answer lookup false f vs depth = None
memo_answer lookup true f vs depth = lookup f vs depth

module _ (program : Tree) where
  abbrev pub first_todo : Child → Todo
  first_todo (instance f vs) = blocks ((proc_of program f).body ∷ [])
  first_todo (half k job count i) = halves k job count i

  abbrev pub here_of : Child → Name
  here_of (instance f vs) = (proc_of program f).called
  here_of (half k job count i) = job.site.procedure

  -- the names' values as an instance begins
  abbrev pub env_of : Child → Env
  env_of (instance f vs) = fresh (proc_of program f).names vs
  env_of (half k job count i) = []

  abbrev pub opened : ℕ → Child → Place → Frame
  opened d child n = record { left = d; instance = n; next = 1; here = here_of child; env = map slot (env_of child); recorded = false }

abbrev pub with_layer : Bool → Frame → Frame
with_layer b fr = record { left = fr.left; instance = fr.instance; next = fr.next; here = fr.here; env = fr.env; recorded = b }

module _ (program : Tree) (tables : Tables) where
  module _ (lookup : Lookup) (kit : Bool) (acc : Accumulators) where
    abbrev pub layer_of : Bool → Layers
    layer_of true = opening_one
    layer_of false = noting

    abbrev pub enter_by : Option Kept → Frame → Name → List ℤ → List Parent → Step
    enter_by (Some k) fr f vs t = taken [] k fr (leaving k.value) t
    enter_by None fr f vs t =
        let records = (proc_of program f).memo && kit in
        moved (layer_of records) (opening program (look_of lookup) fr.left f vs fr.instance) (with_layer records fr)
        (running (first_todo program (instance f vs))) t

    -- an instance is entered
    abbrev pub enter_step : Frame → Child → List Parent → Step
    enter_step fr (instance f vs) t = enter_by (memo_answer lookup (proc_of program f).memo f vs (depth_limit - fr.left)) fr f vs t
    enter_step fr (half k job count i) t = moved noting (Begins fr.instance (depth_limit - fr.left) ∷ []) fr (running (halves k job count i)) t

    -- the child is put on the stack, and entered
    abbrev pub enter_child : Frame → ℕ → Bool → Option ℕ → Child → Todo → List Parent → Step
    enter_child fr d spawned x child todo t = enter_step (opened program d child (child_name fr)) child (awaiting fr spawned x todo ∷ t)

    abbrev pub deed_step : Frame → Site → Deed → List Body → List Parent → Step
    deed_step fr site (bind x e) bs t = on_value fr t site (value tables (map seen fr.env) e)
        (λ v. moved noting [] (with_env fr (slice_set fr.env x (has v))) (running (blocks bs)) t)
    deed_step fr site (enter x Call f es) bs t =
        on_value fr t site (values tables (map seen fr.env) es) (λ vs. on_depth fr t site fr.left (λ d. enter_child fr d false x (instance f vs) (blocks bs) t))
    deed_step fr site (enter x Spawn f es) bs t =
        on_value fr t site (values tables (map seen fr.env) es)
        (λ vs. on_depth fr t site fr.left (λ d. moved noting [] fr (spawning d x (instance f vs) (blocks bs)) t))
    deed_step fr site (read x r) bs t = moved noting []
        (with_env fr (slice_set fr.env x (has (reading acc (numbered 0 (reducers program) r))))) (running (blocks bs)) t
    deed_step fr site (update r es) bs t = on_value fr t site (update_of tables (reducers program) (map seen fr.env) r es)
        (λ u. moved noting [] fr (running (blocks bs)) t)
    deed_step fr site (choose e a b) bs t = on_value fr t site (value tables (map seen fr.env) e)
        (λ v. moved noting [] fr (running (blocks (cond (int_eq v (pos 0)) b a ∷ bs))) t)
    deed_step fr site (loop x e f grain g es) bs t =
        on_value fr t site (bounds tables (map seen fr.env) e f) (λ range.
        enter_child fr fr.left false None (half halvings (job_of site (map seen fr.env) x g es grain range.0) range.1 0) (blocks bs) t)
    deed_step fr site (give e) bs t = on_value fr t site (value tables (map seen fr.env) e) (λ v. moved noting [] fr (returning v) t)
    deed_step fr site sync bs t = paused at_sync

    abbrev pub sync_step : Start → Frame → Todo → List Parent → Step
    sync_step m fr todo t = unless (is_entry m fr.instance) (moved noting (Syncs fr.instance ∷ []) fr (running todo) t)

    abbrev pub todo_step : Start → Frame → Todo → List Parent → Step
    todo_step m fr (blocks []) t = moved noting [] fr (returning (pos 0)) t
    todo_step m fr (blocks (end ∷ bs)) t = moved noting [] fr (running (blocks bs)) t
    todo_step m fr (blocks (step s sync b ∷ bs)) t = sync_step m fr (blocks (b ∷ bs)) t
    todo_step m fr (blocks (step s d b ∷ bs)) t = deed_step fr (record { procedure = fr.here; statement = s }) d (b ∷ bs) t
    todo_step m fr (halves zero job count i) t = moved noting [] fr (running (turns job count i)) t
    todo_step m fr (halves (suc k) job count i) t =
        cond (nat_le count job.grain) (moved noting [] fr (running (turns job count i)) t)
        (moved noting [] fr (spawning fr.left None (half k job (count / 2) i) (second k job (count - count / 2) (i + count / 2))) t)
    todo_step m fr (second k job count i) t = enter_child fr fr.left false None (half k job count i) (blocks []) t
    todo_step m fr (turns job zero i) t = moved noting [] fr (returning (pos 0)) t
    todo_step m fr (turns job (suc count) i) t =
        on_value fr t job.site (turn_values tables job i)
        (λ vs. on_depth fr t job.site fr.left (λ d. enter_child fr d false None (instance job.callee vs) (turns job count (suc i)) t))

    -- an instance's layer is closed at its last sync: a child that has returned has none
    abbrev pub leaving_layer : Bool → Layers
    leaving_layer true = closing_one
    leaving_layer false = noting

    -- the small step
    abbrev pub micro : Start → Frame → Phase → List Parent → Step
    micro m fr (entering child) t = enter_step fr child t
    micro m fr (running todo) t = todo_step m fr todo t
    micro m fr (spawning d x child todo) t = paused at_spawn
    micro m fr (returning v) t = unless (is_entry m fr.instance)
        (moved (leaving_layer fr.recorded) (Syncs fr.instance ∷ []) (with_layer false fr) (leaving v) t)
    micro m fr (leaving v) [] = paused returned
    micro m fr (leaving v) (p ∷ t) = moved noting (Leaves fr.instance (Ok v) ∷ []) (with_value p v) (running p.todo) t
    micro m fr (broken k) t = paused faulted

-- what a push takes out: where the strand began, the child's number, the instance at the spawn and what waits below it
pub record Continuation : Type 0 where
  pub since : Start
  pub child : ℕ
  pub parent : Parent
  pub under : List Parent

-- the place after the child
abbrev pub place_of_continuation : Continuation → Place
place_of_continuation k = child_of k.parent.frame.instance k.child
