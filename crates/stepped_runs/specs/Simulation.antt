-- What the steps on runs of numbers are for the runs of the definitions that they stand for.
use Rattle.std.specs.Prelude.{◌≡◌, ℕ, List, Option, Some, None}
use Rattle.meaning.specs.Schedules.{RunState, RunStep, first_state, after_step, path}
use Rattle.trail_theory.specs.OpenLayers.{IsNumbered}
use Rattle.strand_theory.specs.Ready.{IsReady}
use Rattle.positions.specs.Setting.{Setting, IsLinked, HasItsTables, HasItsRecords}
use Rattle.stepped_runs.specs.Runs.{PlainRun}
use Rattle.stepped_runs.specs.Stands.{StandsForUnflagged}

-- what the steps by numbers ask for: a program and tables that were checked, sound records, a revision number for each
-- procedure, the program's codes and kinds, and records by number that stand for those by name
pub record IsPrepared (setting : Setting) : Type 0 where
  pub ready : IsReady setting.program setting.tables setting.memory
  pub numbered : IsNumbered setting.program
  pub tables : HasItsTables setting
  pub linked : IsLinked setting
  pub records : HasItsRecords setting

-- a state that a run of the definitions comes to by some steps
pub record IsReached (setting : Setting) (x : RunState) : Type 0 where
  pub kits : ℕ
  pub steps : List RunStep
  pub is :
      path setting.program setting.tables setting.memory
      (first_state setting.program.tree kits) steps ≡ x

module _ (setting : Setting) where
  abbrev pub LeadsTo : Option RunState → PlainRun → Type 0
  LeadsTo None s = ⊥
  LeadsTo (Some y) s = IsReached setting y × StandsForUnflagged setting s y

  -- what the second stands for is the definitions' step of what the first stands for
  abbrev pub IsStepOf : RunStep → PlainRun → PlainRun → Type 0
  IsStepOf step s s' =
      (x : RunState) → IsReached setting x → StandsForUnflagged setting s x
      → LeadsTo (after_step setting.program setting.tables setting.memory x step) s'

  -- what it stands for has no such step by the definitions
  abbrev pub IsNoStepOf : RunStep → PlainRun → Type 0
  IsNoStepOf step s =
      (x : RunState) → IsReached setting x → StandsForUnflagged setting s x
      → after_step setting.program setting.tables setting.memory x step ≡ None

  -- the run's beginning
  abbrev pub IsFirstOf : ℕ → PlainRun → Type 0
  IsFirstOf kits s = LeadsTo (Some (first_state setting.program.tree kits)) s
