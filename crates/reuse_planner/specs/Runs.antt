-- What a run by steps makes of a session.
use Rattle.std.specs.Prelude.{◌≡◌, ◌↔◌, ◌≤◌, ℕ, Bool, List, [], map, length}
use Rattle.meaning.specs.Schedules.{RunState, RunStep, first_state, path, end_of}
use Rattle.positions.specs.Setting.{Setting}
use Rattle.positions.specs.declared.answer.RunAnswer.{RunAnswer}
use Rattle.positions.specs.declared.answer.RunAnswer.TheVariants as answer
use Rattle.numbered_runs.specs.Named.{run_step}
use Rattle.numbered_runs.specs.declared.step.Step.{Step}
use Rattle.numbered_runs.specs.Sound.{AreSoundFor, setting_by}
use Rattle.worker_core.specs.Keeps.{IsEndBy}
use Rattle.kept_session.specs.Sessions.{PlainSession}
use Rattle.session_runs.specs.Runs.{IsAfterRun}
use Rattle.reuse_planner.specs.Steps.{done_of, AreMarks, marked, by_workers}

-- where these steps lead by the definitions, from a beginning with so many kits
abbrev pub led : Setting → ℕ → List RunStep → RunState
led setting kits steps = path setting.program setting.tables setting.memory (first_state setting.program.tree kits) steps

module _ (s : PlainSession) (workers : ℕ) (steps : List Step) where
  -- the steps done, of which those marked were pushes without memory
  abbrev pub taken_with : List Bool → List RunStep
  taken_with marks = by_workers workers (done_of marks (map run_step steps))

  -- whichever sound records the session's stand for, the steps done lead to the end that is answered, or to none
  pub record IsLedBy (inlined : ℕ) (given : RunAnswer) : Type 0 where
    pub marks : List Bool
    pub placed : AreMarks marks (map run_step steps)
    pub counted : marked marks ≡ inlined
    pub comes : (k : AreSoundFor s.checked s.records)
        → IsEndBy s.checked (end_of (led (setting_by s.checked s.tables s.records k) (length s.kits.kits) (taken_with marks))) given

  -- a run that memory was refused to ends anywhere; of its own pushes alone were some done as inlines, and of one that was not begun none
  abbrev pub IsLed : ℕ → RunAnswer → Type 0
  IsLed inlined answer.NoMemory = inlined ≤ length steps
  IsLed inlined answer.NoKit = (s.kits.kits ≡ []) × (inlined ≡ 0)
  IsLed inlined given = IsLedBy inlined given

-- a run that was begun
abbrev pub IsBegun : RunAnswer → Type 0
IsBegun answer.NoKit = ⊥
IsBegun _ = Unit {0}

-- a run by steps
pub record IsRun (s : PlainSession) (workers : ℕ) (steps : List Step) (given : RunAnswer) (t : PlainSession) : Type 0 where
  pub after : IsAfterRun s given t
  pub led_by : IsLed s workers steps t.inlined given
  pub no_kit : given ≡ answer.NoKit ↔ s.kits.kits ≡ []
