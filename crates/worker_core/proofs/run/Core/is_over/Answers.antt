use Rattle.std.proofs.Common.{subst}
use Rattle.worker_core.specs.Cores.{PlainCore}
use Rattle.worker_core.specs.Going.{GoesOn}
use Rattle.worker_core.proofs.Going.{stays_on}
use Rattle.worker_core.proofs.run.Core.is_over.Goals as goal

pub returns-else-self-clause-goes_on : goal.returns-else-self-clause-goes_on
returns-else-self-clause-goes_on g c =
    let core : PlainCore = record { program = c.self.inside.program.now; tables = c.self.inside.tables.now; records = c.self.inside.records.now; strands = c.self.inside.strands; workers = c.self.inside.workers; failed = c.self.inside.failed } in
    subst GoesOn c.self.view_is (stays_on core c.self.invariant.1)
