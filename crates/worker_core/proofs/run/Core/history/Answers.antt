use Rattle.std.proofs.Common.{subst}
use Rattle.worker_core.specs.Keeps.{IsLegal}
use Rattle.worker_core.proofs.Keeping.{stays_legal}
use Rattle.worker_core.proofs.run.Core.history.Goals as goal

pub returns-clause-legal : goal.returns-clause-legal
returns-clause-legal g c =
    subst IsLegal c.self.view_is (stays_legal c.self.inside.program.now c.self.inside.tables.now c.self.inside.records.now c.self.inside.failed c.self.inside.workers c.self.inside.strands c.self.invariant.1)
