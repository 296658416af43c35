-- What each statement does, once its parts are known.
use Rattle.std.specs.Prelude.{ℕ, ℤ, pos, map, List, Option, Some, None, Result, Ok, cond}
use Rattle.std.specs.Ordering.{int_eq}
use Rattle.meaning.specs.Tree.{Name, Term, Body, Proc, Tree}
use Rattle.meaning.specs.TreeView.{term}
use Rattle.meaning.specs.Tables.{Tables}
use Rattle.meaning.specs.Outcome.{Site, Fault}
use Rattle.meaning.specs.Run.{Run, ◌>>=◌, pure, values_here, at}
use Rattle.meaning.specs.Values.{Env, put, value, values}
use Rattle.meaning.specs.Statements.{reducers, numbered, reading, put_into, fresh, update_of, bounds, Job, job_of, turn_values}
use Rattle.meaning.specs.Records.{Key, Kept, with_kinds}
use Rattle.serial_oracle.specs.declared.scope.Entry.{Entry}
use Rattle.serial_oracle.specs.Results.{Summary, with_executed, with_reused, results}
use Rattle.meaning.specs.Elision.{Enter, Next, On, Back, back_or_zero, body, all_turns}

-- where a statement that enters a procedure stands
abbrev pub site_of : Entry → Site
site_of e = record { procedure = e.here.now; statement = e.number }

-- the iterations from a low one on
abbrev pub job_in : Entry → Env → ℕ → ℕ → ℤ → Job
job_in e env x grain low = job_of (site_of e) env x e.callee.now (map term e.arguments.now) grain low

abbrev pub bound : Tables → Site → Env → ℕ → Term → Run Next
bound tables site env x e = at site (value tables env e) >>= (λ v. pure (On (put env x v)))

abbrev pub back : Tables → Site → Env → Term → Run Next
back tables site env e = at site (value tables env e) >>= (λ v. pure (Back v))

abbrev pub told : Tree → Env → ℕ → Name → Run Next
told program env x r = values_here >>= (λ acc. pure (On (put env x (reading acc (numbered 0 (reducers program) r)))))

abbrev pub updates_here : Tree → Tables → Site → Env → Name → List Term → Run Next
updates_here program tables site env r es = at site (update_of tables (reducers program) env r es) >>= (λ _. pure (On env))

abbrev pub entered : Tables → Enter → Site → Env → Option ℕ → Name → List Term → Run Next
entered tables enters site env x f es = at site (values tables env es) >>= (λ vs. enters site f vs >>= (λ v. pure (On (put_into x env v))))

abbrev pub chosen : Tree → Tables → Enter → Site → Env → Term → Body → Body → Run Next
chosen program tables enters site env e a b =
    at site (value tables env e) >>= (λ v. cond (int_eq v (pos 0)) (body program tables enters site.procedure env b)
    (body program tables enters site.procedure env a))

abbrev pub looped : Tree → Tables → Enter → Site → Env → ℕ → Term → Term → ℕ → Name → List Term → Run Next
looped program tables enters site env x e f grain g es =
    at site (bounds tables env e f) >>= (λ range. all_turns program tables enters (job_of site env x g es grain range.0) range.1 >>= (λ _. pure (On env)))

-- one iteration
abbrev pub turn : Tables → Enter → Job → ℕ → Run (Unit {0})
turn tables enters job i = at job.site (turn_values tables job i) >>= (λ vs. enters job.site job.callee vs >>= (λ _. pure tt))

-- an instance, after its entering is noted
abbrev pub inside : Tree → Tables → Enter → Proc → List ℤ → Run ℤ
inside program tables enters p args =
    body program tables enters p.called (fresh p.names args) p.body >>= (λ next. pure (back_or_zero next))

-- what a record does in the place of its instance
abbrev pub by_record : Tree → Kept → Key → Summary → Result ℤ Fault × Summary
by_record program k key s = (Ok k.value, with_reused s (with_kinds (reducers program) k.contribution) key)

-- a memo instance: by the record that answers it, or else by itself
abbrev pub memoised : Tree → Option Kept → Key → Run ℤ → Summary → Result ℤ Fault × Summary
memoised program None key run s = results program run (with_executed s key)
memoised program (Some k) key run s = by_record program k key s
