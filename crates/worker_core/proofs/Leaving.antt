-- What is left to do of a run that stands for one of the definitions is the elision's answer.
use Rattle.std.proofs.Common.{◌≡◌, subst}
use Rattle.meaning.specs.TreeView.{tree}
use Rattle.meaning.specs.Elision.{from_scratch}
use Rattle.meaning.specs.RestOfRun.{rest_of_run}
use Rattle.meaning.specs.Schedules.{RunState, recording_from}
use Rattle.linked_program.specs.Checked.{revised_of}
use Rattle.run_theory.proofs.Remains.{paths_rest}
use Rattle.worker_core.specs.Cores.{PlainCore}
use Rattle.worker_core.specs.Keeps.{KeepsRun}
use Rattle.worker_core.specs.Leaving.{LeavesElision}

pub leaves : (c : PlainCore) → KeepsRun c.program c.tables c.records c.strands → LeavesElision c
leaves c h = (
  h.sound,
  λ k. record {
    run = (h.path k).run;
    reached = (h.path k).reached;
    stands = (h.path k).stands;
    left = subst (λ (x : RunState). rest_of_run (tree c.program.program) c.tables.tables x ≡ from_scratch (tree c.program.program) c.tables.tables) (h.path k).reached.is
        (paths_rest (revised_of c.program) c.tables.tables (recording_from k.kept) (h.prepared k).ready (h.path k).reached.kits (h.path k).reached.steps);
  },
)
