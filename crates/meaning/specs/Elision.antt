-- The serial elision.
use Rattle.std.specs.Prelude.{ℕ, zero, suc, ◌-◌, max, ℤ, pos, cond, List, [], ◌∷◌, Ok, Err}
use Rattle.std.specs.Ordering.{int_eq}
use Rattle.meaning.specs.Tree.{Name, Deed, bind, enter, read, sync, update, choose, loop, give, Body, end, step, Proc, Tree}
use Rattle.meaning.specs.declared.FaultKind.TheVariants.{TooDeep}
use Rattle.meaning.specs.Tables.{Tables}
use Rattle.meaning.specs.Outcome.{Out, Log, Accumulators, Site, Fault, Reads, Enters, Reading, after}
use Rattle.meaning.specs.Run.{Run, ◌>>=◌, ◌>>◌, pure, fail, note, nothing, values_here, at}
use Rattle.meaning.specs.Values.{Env, put, value, values}
use Rattle.meaning.specs.Statements.{reducers, proc_of, numbered, identities, initial_values, put_into, reading, fresh, Job, job_of}
use Rattle.meaning.specs.Statements.{turn_values, update_of, bounds}

-- ---- statements

-- how an instance is entered: at a statement, by a procedure's name and arguments
abbrev pub Enter : Type 0
Enter = Site → Name → List ℤ → Run ℤ

-- after a statement or a block: on with these values, or back with a value
pub data Next : Type 0 where
  On : Env → Next
  Back : ℤ → Next

abbrev pub go_on : Next → (Env → Run Next) → Run Next
go_on (On env) f = f env
go_on (Back v) f = pure (Back v)

abbrev pub back_or_zero : Next → ℤ
back_or_zero (On env) = pos 0
back_or_zero (Back v) = v

module _ (program : Tree) (tables : Tables) (enters : Enter) where
  -- so many iterations, from the i-th on
  abbrev pub turns : Job → ℕ → ℕ → Run (Unit {0})
  turns job zero i = nothing
  turns job (suc n) i = do
    vs ← at job.site (turn_values tables job i)
    enters job.site job.callee vs
    turns job n (suc i)

  unfoldable pub all_turns : Job → ℕ → Run (Unit {0})
  all_turns job n = turns job n 0

  abbrev mutual
    pub deed : Site → Env → Deed → Run Next
    deed site env (bind x e) = do
      v ← at site (value tables env e)
      pure (On (put env x v))
    deed site env (enter x way f es) = do
      vs ← at site (values tables env es)
      v ← enters site f vs
      pure (On (put_into x env v))
    deed site env (read x r) = do
      acc ← values_here
      pure (On (put env x (reading acc (numbered 0 (reducers program) r))))
    deed site env sync = pure (On env)
    deed site env (update r es) = do
      at site (update_of tables (reducers program) env r es)
      pure (On env)
    deed site env (choose e a b) = do
      v ← at site (value tables env e)
      cond (int_eq v (pos 0)) (body site.procedure env b) (body site.procedure env a)
    deed site env (loop x e f grain g es) = do
      range ← at site (bounds tables env e f)
      all_turns (job_of site env x g es grain range.0) range.1
      pure (On env)
    deed site env (give e) = do
      v ← at site (value tables env e)
      pure (Back v)

    pub body : Name → Env → Body → Run Next
    body here env end = pure (On env)
    body here env (step n d rest) = do
      next ← deed (record { procedure = here; statement = n }) env d
      go_on next (λ env'. body here env' rest)

-- the greatest depth of an instance; main is at depth 1
abbrev pub depth_limit : ℕ
depth_limit = 256

module _ (program : Tree) (tables : Tables) where
  abbrev pub instance : Enter → Name → List ℤ → ℕ → Proc → Run ℤ
  instance enters f args depth p = do
    note (Enters f args depth)
    next ← body program tables enters p.called (fresh p.names args) p.body
    pure (back_or_zero next)

  -- an instance, where so many levels are left: none below the deepest
  unfoldable pub elide : ℕ → Enter
  elide zero site f args = fail site TooDeep
  elide (suc left) site f args = instance (elide left) f args (depth_limit - left) (proc_of program f)

-- ---- what is read off the log

abbrev pub reads : Log → List Reading
reads [] = []
reads (Reads r ∷ log) = r ∷ reads log
reads (_ ∷ log) = reads log

abbrev pub entered : Log → List Name
entered [] = []
entered (Enters f args depth ∷ log) = f ∷ entered log
entered (_ ∷ log) = entered log

abbrev pub deepest : Log → ℕ
deepest [] = 0
deepest (Enters f args depth ∷ log) = max depth (deepest log)
deepest (_ ∷ log) = deepest log

-- ---- from scratch

pub data Answer : Type 0 where
  Finished : ℤ → Accumulators → Answer
  Faulted : Fault → Answer

abbrev pub answer_of : Accumulators → Out Fault ℤ → Answer
answer_of acc o = elim o.answer [ Ok v ↦ Finished v (after o.log acc) | Err e ↦ Faulted e ]

abbrev pub main : Name
main = 109 ∷ 97 ∷ 105 ∷ 110 ∷ []

abbrev pub start : Site
start = record { procedure = main; statement = 0 }

-- main at depth 1, from these values of the reducers
abbrev pub from_values : Accumulators → Tree → Tables → Answer
from_values initial program tables = answer_of initial (elide program tables depth_limit start main [] initial)

-- from scratch: from the initial values
unfoldable pub from_scratch : Tree → Tables → Answer
from_scratch program tables = from_values (initial_values program) program tables

-- The contribution of an instance: what it makes of the identities
abbrev pub contribution_of : Tree → Tables → ℕ → Name → List ℤ → Accumulators
contribution_of program tables depth f args =
    after (elide program tables (suc depth_limit - depth) start f args (identities program)).log (identities program)
