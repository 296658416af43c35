-- The serial trail.
use Rattle.std.specs.Prelude.{ℕ, zero, suc, ◌+◌, ◌-◌, ◌/◌, nat_le, ℤ, pos, Bool, true, false, cond, List, [], ◌∷◌, ◌++◌, Option, Some}
use Rattle.std.specs.Prelude.{None, Result, Ok, Err, slice_set}
use Rattle.std.specs.Ordering.{int_eq}
use Rattle.meaning.specs.Tree.{Name, Deed, bind, enter, read, sync, update, choose, loop, give, Body, end, step, Tree}
use Rattle.meaning.specs.declared.tree.Way.TheVariants.{Call, Spawn}
use Rattle.meaning.specs.declared.FaultKind.{FaultKind}
use Rattle.meaning.specs.declared.FaultKind.TheVariants.{TooDeep}
use Rattle.meaning.specs.Tables.{Tables}
use Rattle.meaning.specs.Outcome.{Out, Log, Accumulators, Site, Fault, Outcome, Place, Enters, Begins, Syncs, Leaves, Faults, Marks, Spawns, after}
use Rattle.meaning.specs.Values.{Env, put, value, values}
use Rattle.meaning.specs.Statements.{reducers, proc_of, numbered, beginning, initial_values, put_into, reading, fresh, Job, job_of}
use Rattle.meaning.specs.Statements.{turn_values, update_of, bounds}
use Rattle.meaning.specs.Elision.{elide, start, main, depth_limit}

pub record Trace : Type 0 where
  pub events : Log
  pub outcome : Outcome

-- events, and then a trace
abbrev pub led : Log → Trace → Trace
led es r = record { events = es ++ r.events; outcome = r.outcome }

abbrev pub brief : Outcome → Trace
brief o = record { events = []; outcome = o }

abbrev pub child_of : Place → ℕ → Place
child_of n c = n ++ c ∷ []

abbrev pub fault_at : Site → FaultKind → Fault
fault_at site k = record { kind = k; site = site }

-- the fault that an instance has to answer, where one of its spawned children had one
abbrev pub first : Option Fault → Fault → Fault
first None k = k
first (Some j) k = j

abbrev pub ended : Option Fault → ℤ → Outcome
ended None v = Ok v
ended (Some k) v = Err k

abbrev pub forgotten_in : Option ℕ → Env → Env
forgotten_in None env = env
forgotten_in (Some x) env = slice_set env x None

abbrev pub env_after : Env → Option ℕ → Outcome → Env
env_after env x (Ok v) = put_into x env v
env_after env x (Err k) = forgotten_in x env

abbrev pub doom_after : Option Fault → Outcome → Option Fault
doom_after doom (Ok v) = doom
doom_after doom (Err k) = Some (first doom k)

-- a fault at a statement of the instance
abbrev pub stop : Option Fault → Fault → Trace
stop doom k = record { events = Faults k ∷ []; outcome = Err (first doom k) }

abbrev pub after_answer : {A : Type 0} → Option Fault → Site → Result A FaultKind → (A → Trace) → Trace
after_answer doom site (Ok a) next = next a
after_answer doom site (Err k) next = stop doom (fault_at site k)

-- an evaluation at a statement, and then the rest
abbrev pub evaluated : {A : Type 0} → Option Fault → Site → Out FaultKind A → (A → Trace) → Trace
evaluated doom site o next = led o.log (after_answer doom site o.answer next)

-- what enters an instance, where the depth allows one
abbrev pub Go : Type 0
Go = Name → List ℤ → Place → Trace

abbrev pub Runner : Type 0
Runner = Option Go

abbrev pub entering : Option Fault → Site → Runner → (Go → Trace) → Trace
entering doom site None next = stop doom (fault_at site TooDeep)
entering doom site (Some go) next = next go

abbrev pub on_call : Option Fault → Outcome → (ℤ → Trace) → Trace
on_call doom (Ok v) next = next v
on_call doom (Err k) next = brief (Err (first doom k))

abbrev pub after_call : Option Fault → Trace → (ℤ → Trace) → Trace
after_call doom r next = led r.events (on_call doom r.outcome next)

-- the spawned child of that name, and then the rest
abbrev pub after_spawn : Place → Trace → (Outcome → Trace) → Trace
after_spawn p r next = led (Spawns p ∷ r.events) (next r.outcome)

abbrev pub past_sync : Option Fault → Trace → Trace
past_sync None r = r
past_sync (Some k) r = brief (Err k)

-- an instance's last sync
abbrev pub over : Place → Option Fault → ℤ → Trace
over n doom v = record { events = Syncs n ∷ []; outcome = ended doom v }

-- an instance, with its entering and leaving
abbrev pub closed : Log → Place → Trace → Trace
closed opening n r = record { events = opening ++ (r.events ++ Leaves n r.outcome ∷ []); outcome = r.outcome }

-- which keys a record answers at a depth; None inside an instance that is answered
abbrev pub Look : Type 0
Look = Option (Name → List ℤ → ℕ → Bool)

abbrev pub mark : Look → Name → List ℤ → ℕ → Bool → Log
mark None f args depth memo = []
mark (Some l) f args depth false = []
mark (Some l) f args depth true = Marks f args (l f args depth) ∷ []

-- whether a record answers
abbrev pub answers : Look → Name → List ℤ → ℕ → Bool → Bool
answers None f args depth memo = false
answers (Some l) f args depth false = false
answers (Some l) f args depth true = l f args depth

abbrev pub within : Look → Bool → Look
within look b = cond b None look

-- the events of an entering
abbrev pub opening : Tree → Look → ℕ → Name → List ℤ → Place → Log
opening program look left f args n = Begins n
    (depth_limit - left) ∷ (mark look f args (depth_limit - left) (proc_of program f).memo ++ Enters f args (depth_limit - left) ∷ [])

-- inside an instance that a record answers nothing is marked
abbrev pub inner : Tree → Look → ℕ → Name → List ℤ → Look
inner program look left f args = within look (answers look f args (depth_limit - left) (proc_of program f).memo)

-- a loop may be halved so many times
abbrev pub most_halvings : ℕ
most_halvings = 42

-- that number, by a name that doesn't unfold: the walk recurs on it
unfoldable pub halvings : ℕ
halvings = most_halvings

module _ (program : Tree) (tables : Tables) (sight : Accumulators) where
  module _ (sub : Runner) where
    -- so many iterations of a leaf, from the i-th on
    abbrev pub turns_walk : Job → ℕ → ℕ → Place → ℕ → Option Fault → Trace
    turns_walk job zero i n c doom = over n doom (pos 0)
    turns_walk job (suc left) i n c doom =
        evaluated doom job.site (turn_values tables job i)
        (λ vs. entering doom job.site sub (λ go. after_call doom (go job.callee vs (child_of n c))
        (λ v. turns_walk job left (suc i) n (suc c) doom)))

    module _ (left : ℕ) where
      -- a half, with its entering and leaving
      abbrev pub half_closed : Place → Trace → Trace
      half_closed n r = closed (Begins n (depth_limit - left) ∷ []) n r

      -- a loop or a half over so many numbers, from the i-th on, halved so many times at most, whose next child has the number c
      abbrev pub loop_walk : ℕ → Job → ℕ → ℕ → Place → ℕ → Option Fault → Trace
      loop_walk zero job count i n c doom = turns_walk job count i n c doom
      loop_walk (suc k) job count i n c doom =
          cond (nat_le count job.grain) (turns_walk job count i n c doom)
          (after_spawn (child_of n c) (half_closed (child_of n c) (loop_walk k job (count / 2) i (child_of n c) 1 None)) (λ o.
          after_call (doom_after doom o) (half_closed (child_of n (suc c))
          (loop_walk k job (count - count / 2) (i + count / 2) (child_of n (suc c)) 1 None)) (λ v. over n (doom_after doom o) (pos 0))))

      abbrev pub half_run : ℕ → Job → ℕ → ℕ → Place → Trace
      half_run k job count i n = half_closed n (loop_walk k job count i n 1 None)

      -- the second half, and the loop's end
      abbrev pub second_walk : ℕ → Job → ℕ → ℕ → Place → ℕ → Option Fault → Trace
      second_walk k job count i n c doom = after_call doom (half_run k job count i (child_of n c)) (λ v. over n doom (pos 0))

      -- what a statement or a block does in the instance n, and then the rest
      abbrev mutual
        pub deed_walk : Place → Site → Deed → Env → ℕ → Option Fault → (Env → ℕ → Option Fault → Trace) → Trace
        deed_walk n site (bind x e) env c doom k = evaluated doom site (value tables env e) (λ v. k (put env x v) c doom)
        deed_walk n site (enter x Call f es) env c doom k =
            evaluated doom site (values tables env es)
            (λ vs. entering doom site sub (λ go. after_call doom (go f vs (child_of n c)) (λ v. k (put_into x env v) (suc c) doom)))
        deed_walk n site (enter x Spawn f es) env c doom k =
            evaluated doom site (values tables env es)
            (λ vs. entering doom site sub (λ go. after_spawn (child_of n c) (go f vs (child_of n c))
            (λ o. k (env_after env x o) (suc c) (doom_after doom o))))
        deed_walk n site (read x r) env c doom k = k (put env x (reading sight (numbered 0 (reducers program) r))) c doom
        deed_walk n site sync env c doom k = led (Syncs n ∷ []) (past_sync doom (k env c None))
        deed_walk n site (update r es) env c doom k = evaluated doom site (update_of tables (reducers program) env r es) (λ u. k env c doom)
        deed_walk n site (choose e a b) env c doom k =
            evaluated doom site (value tables env e)
            (λ v. cond (int_eq v (pos 0)) (body_walk n site.procedure b env c doom k) (body_walk n site.procedure a env c doom k))
        deed_walk n site (loop x e f grain g es) env c doom k =
            evaluated doom site (bounds tables env e f)
            (λ range. after_call doom (half_run halvings (job_of site env x g es grain range.0) range.1 0 (child_of n c))
            (λ v. k env (suc c) doom))
        deed_walk n site (give e) env c doom k = evaluated doom site (value tables env e) (λ v. over n doom v)

        pub body_walk : Place → Name → Body → Env → ℕ → Option Fault → (Env → ℕ → Option Fault → Trace) → Trace
        body_walk n here end env c doom k = k env c doom
        body_walk n here (step s d b) env c doom k =
            deed_walk n (record { procedure = here; statement = s }) d env c doom (λ env' c' doom'. body_walk n here b env' c' doom' k)

      -- the blocks that are left, innermost first
      abbrev pub blocks_walk : Place → Name → List Body → Env → ℕ → Option Fault → Trace
      blocks_walk n here [] env c doom = over n doom (pos 0)
      blocks_walk n here (b ∷ bs) env c doom = body_walk n here b env c doom (λ env' c' doom'. blocks_walk n here bs env' c' doom')

  abbrev pub run_inside : Runner → ℕ → Name → List ℤ → Place → Trace
  run_inside sub left f args n = blocks_walk sub left n (proc_of program f).called ((proc_of program f).body ∷ []) (fresh (proc_of program f).names args) 1 None

  -- where so many levels are left
  unfoldable pub runner : ℕ → Look → Runner
  runner zero look = None
  runner (suc left) look = Some (λ f args n. closed (opening program look left f args n) n
      (run_inside (runner left (inner program look left f args)) left f args n))

  -- an instance with so many levels below it
  abbrev pub run : ℕ → Look → Name → List ℤ → Place → Trace
  run left look f args n = closed (opening program look left f args n) n (run_inside (runner left (inner program look left f args)) left f args n)

-- what `read` sees at the end of main
abbrev pub sight_of : Tree → Tables → Accumulators
sight_of program tables = after (elide program tables depth_limit start main [] (initial_values program)).log (initial_values program)

-- the trail where `read` sees so much: the updates by the initial values, and then the run of main
abbrev pub trail_at : Tree → Tables → Accumulators → Look → Log
trail_at program tables sight look = beginning program ++ (run program tables sight (depth_limit - 1) look main [] []).events

abbrev pub trail : Tree → Tables → Look → Log
trail program tables look = trail_at program tables (sight_of program tables) look
