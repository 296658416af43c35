-- What the serial run has beside a strand's instances, and what it still does from there.
use Rattle.std.specs.Prelude.{ℕ, suc, ◌-◌, Bool, true, false, List, [], ◌∷◌, ◌++◌, Option, None, Ok, Err}
use Rattle.meaning.specs.Tree.{Tree}
use Rattle.meaning.specs.Tables.{Tables}
use Rattle.meaning.specs.Outcome.{Accumulators, Fault, Outcome, Place, Begins, Leaves, Spawns}
use Rattle.meaning.specs.Values.{Env}
use Rattle.meaning.specs.Statements.{put_into}
use Rattle.meaning.specs.Trail.{Trace, env_after, doom_after, Look, led, brief, first, stop, over, opening, inner, turns_walk, loop_walk}
use Rattle.meaning.specs.Trail.{second_walk, blocks_walk, run_inside, runner}
use Rattle.meaning.specs.SmallStep.{Frame, Todo, blocks, halves, second, turns, Child, instance, half, Phase, entering, running, spawning}
use Rattle.meaning.specs.SmallStep.{returning, leaving, broken, Parent, child_name}
use Rattle.meaning.specs.Elision.{depth_limit}

-- what the serial run has beside an instance: its names' values, and the fault of a spawned child of it
pub record Beside : Type 0 where
  pub env : Env
  pub doom : Option Fault

module _ (program : Tree) (tables : Tables) (sight : Accumulators) (look : Look) where
  abbrev pub child_inside : ℕ → Child → Place → Trace
  child_inside left (instance f vs) n = led (opening program look left f vs n)
      (run_inside program tables sight (runner program tables sight left (inner program look left f vs)) left f vs n)
  child_inside left (half k job count i) n =
      led (Begins n (depth_limit - left) ∷ [])
      (loop_walk program tables sight (runner program tables sight left look) left k job count i n 1 None)

  abbrev pub finished_by : Place → Trace → (Outcome → Trace) → Trace
  finished_by n r next = led (r.events ++ Leaves n r.outcome ∷ []) (next r.outcome)

  abbrev pub todo_walk : Frame → Todo → Env → ℕ → Option Fault → Trace
  todo_walk fr (blocks bs) env c doom = blocks_walk program tables sight (runner program tables sight fr.left look) fr.left fr.instance fr.here bs env c doom
  todo_walk fr (halves k job count i) env c doom =
      loop_walk program tables sight (runner program tables sight fr.left look) fr.left k job count i fr.instance c doom
  todo_walk fr (second k job count i) env c doom =
      second_walk program tables sight (runner program tables sight fr.left look) fr.left k job count i fr.instance c doom
  todo_walk fr (turns job count i) env c doom = turns_walk program tables sight (runner program tables sight fr.left look) job count i fr.instance c doom

  -- what is left to do of a task, serially
  abbrev pub phase_walk : Frame → Phase → Beside → Trace
  phase_walk fr (entering child) g = child_inside fr.left child fr.instance
  phase_walk fr (running todo) g = todo_walk fr todo g.env fr.next g.doom
  phase_walk fr (spawning d x child todo) g =
      led (Spawns (child_name fr) ∷ []) (finished_by (child_name fr) (child_inside d child (child_name fr))
      (λ o. todo_walk fr todo (env_after g.env x o) (suc fr.next) (doom_after g.doom o)))
  phase_walk fr (returning v) g = over fr.instance g.doom v
  phase_walk fr (leaving v) g = brief (Ok v)
  phase_walk fr (broken k) g = stop g.doom k

  -- a parent goes on with its child's outcome
  abbrev pub parent_walk : Parent → Bool → Beside → Outcome → Trace
  parent_walk p true g o = todo_walk p.frame p.todo (env_after g.env p.into o) p.frame.next (doom_after g.doom o)
  parent_walk p false g (Ok v) = todo_walk p.frame p.todo (put_into p.into g.env v) p.frame.next g.doom
  parent_walk p false g (Err k) = brief (Err (first g.doom k))

  abbrev pub below : List Parent → List Beside → Outcome → Trace
  below [] gs o = brief o
  below (p ∷ t) [] o = brief o
  below (p ∷ t) (g ∷ gs) o = finished_by p.frame.instance (parent_walk p p.spawned g o) (below t gs)

  abbrev pub rest : Frame → Phase → List Parent → Beside → List Beside → Trace
  rest fr ph t g gs = finished_by fr.instance (phase_walk fr ph g) (below t gs)
