use Rattle.std.proofs.Common.{◌≡◌, false, subst}
use Rattle.worker_core.specs.Cores.{PlainCore}
use Rattle.worker_core.specs.Leaving.{LeavesElision}
use Rattle.worker_core.proofs.Keeping.{stays_kept}
use Rattle.worker_core.proofs.Leaving.{leaves}
use Rattle.worker_core.proofs.run.Core.upheld.Goals as goal

pub returns : goal.returns
returns g c =
    let core : PlainCore = record { program = c.self.inside.program.now; tables = c.self.inside.tables.now; records = c.self.inside.records.now; strands = c.self.inside.strands; workers = c.self.inside.workers; failed = c.self.inside.failed } in
    record { leaves = subst (λ (x : PlainCore). x.failed ≡ false → LeavesElision x) c.self.view_is (λ going. leaves core (stays_kept core.program core.tables core.records core.failed core.workers core.strands c.self.invariant.1 going).0) }
