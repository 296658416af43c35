-- What the steps that a run is given make of it.
use Rattle.std.specs.Prelude.{◌≡◌, ◌≤◌, ℕ, Bool, false, length, List, [], ◌∷◌, map, Option, Some}
use Rattle.meaning.specs.Schedules.{RunState, RunStep, or_same, path, end_of}
use Rattle.positions.specs.declared.answer.RunAnswer.{RunAnswer}
use Rattle.positions.specs.declared.answer.RunAnswer.TheVariants as answer
use Rattle.linked_program.specs.Checked.{PlainChecked}
use Rattle.input_tables.specs.Edited.{Edited}
use Rattle.record_theory.specs.Record.{PlainRecord}
use Rattle.view_pool.specs.Stock.{Stock}
use Rattle.monoid_laws.specs.declared.Kind.{Kind}
use Rattle.positions.specs.Setting.{Setting}
use Rattle.numbered_runs.specs.Named.{run_step}
use Rattle.stepped_runs.specs.Stands.{StandsForUnflagged}
use Rattle.stepped_runs.specs.Simulation.{IsReached, LeadsTo}
use Rattle.numbered_runs.specs.declared.step.Step.{Step}
use Rattle.worker_core.specs.Strands.{PlainStrands, run_of, kits_in}
use Rattle.worker_core.specs.Cores.{PlainCore}
use Rattle.worker_core.specs.Keeps.{HasSound, recalling, IsEndBy}
use Rattle.kept_session.specs.Sessions.{PlainSession}
use Rattle.reuse_planner.specs.Steps.{done_as, done_of, IsMark, AreMarks, marked, by_workers}

-- a session of what a run is lent
abbrev pub lender : PlainChecked → Edited → Stock (List Kind) → List PlainRecord → PlainSession
lender checked tables kits records = record { checked = checked; tables = tables; kits = kits; records = records; inlined = 0 }

-- the same run: its program, its tables and records, and as many kits
pub record IsSameRun (c d : PlainCore) : Type 0 where
  pub program : d.program ≡ c.program
  pub tables : d.tables ≡ c.tables
  pub records : d.records ≡ c.records
  pub kits : kits_in d.strands ≡ kits_in c.strands
  pub total : d.strands.total ≡ c.strands.total

-- where steps of the definitions lead to
abbrev pub path_in : Setting → RunState → List RunStep → RunState
path_in setting = path setting.program setting.tables setting.memory

abbrev pub or_same_in : Setting → RunState → Option RunState → RunState
or_same_in setting = or_same setting.program setting.tables setting.memory

-- these strands stand for what the steps lead to, from what the run's stand for
abbrev pub Follows : List RunStep → PlainCore → PlainStrands → Type 0
Follows steps c t =
    (k : HasSound c) (x : RunState) → IsReached (recalling c k) x → StandsForUnflagged (recalling c k) (run_of c.strands) x
    → LeadsTo (recalling c k) (Some (path_in (recalling c k) x steps)) (run_of t)

-- a step is done, as an inline or as it is, where there is such a worker
pub record IsTaken (b : Bool) (step : Step) (c d : PlainCore) : Type 0 where
  pub placed : IsMark b (run_step step)
  pub same : d ≡ record c { strands = d.strands }
  pub follows : c.failed ≡ false → Follows (by_workers c.workers (done_as b (run_step step) ∷ [])) c d.strands

-- all steps are done, so many of them as inlines
pub record AreTaken (steps : List Step) (inlined : ℕ) (c d : PlainCore) : Type 0 where
  pub marks : List Bool
  pub placed : AreMarks marks (map run_step steps)
  pub counted : marked marks ≡ inlined
  pub same : d ≡ record c { strands = d.strands }
  pub follows : c.failed ≡ false → Follows (by_workers c.workers (done_of marks (map run_step steps))) c d.strands

-- whatever run of the definitions this one stands for, the steps done lead it to the end that is answered, or to none
pub record ComesBy (c : PlainCore) (steps : List Step) (inlined : ℕ) (given : RunAnswer) : Type 0 where
  pub marks : List Bool
  pub placed : AreMarks marks (map run_step steps)
  pub counted : marked marks ≡ inlined
  pub comes :
      (k : HasSound c) (x : RunState) → IsReached (recalling c k) x → StandsForUnflagged (recalling c k) (run_of c.strands) x
      → IsEndBy c.program (end_of (path_in (recalling c k) x (by_workers c.workers (done_of marks (map run_step steps))))) given

-- unless memory was refused: then no more steps than there are were done as inlines
abbrev pub EndsBy : PlainCore → List Step → ℕ → RunAnswer → Type 0
EndsBy c steps inlined answer.NoMemory = inlined ≤ length steps
EndsBy c steps inlined given = ComesBy c steps inlined given
