-- What is left to do of a run.
use Rattle.std.specs.Prelude.{◌≡◌}
use Rattle.meaning.specs.TreeView.{tree}
use Rattle.meaning.specs.Elision.{from_scratch}
use Rattle.meaning.specs.RestOfRun.{rest_of_run}
use Rattle.meaning.specs.Schedules.{RunState}
use Rattle.stepped_runs.specs.Stands.{StandsForUnflagged}
use Rattle.stepped_runs.specs.Simulation.{IsReached}
use Rattle.worker_core.specs.Strands.{run_of}
use Rattle.worker_core.specs.Cores.{PlainCore}
use Rattle.worker_core.specs.Keeps.{HasSound, recalling}

-- it stands for a run of the definitions that some steps lead to, of which the elision's answer from scratch is left, with those sound records by name
pub record LeavesElisionBy (c : PlainCore) (k : HasSound c) : Type 0 where
  pub run : RunState
  pub reached : IsReached (recalling c k) run
  pub stands : StandsForUnflagged (recalling c k) (run_of c.strands) run
  pub left : rest_of_run (tree c.program.program) c.tables.tables run ≡ from_scratch (tree c.program.program) c.tables.tables

-- the records are sound, and whichever sound records they stand for, it leaves that
abbrev pub LeavesElision : PlainCore → Type 0
LeavesElision c = HasSound c × ((k : HasSound c) → LeavesElisionBy c k)
