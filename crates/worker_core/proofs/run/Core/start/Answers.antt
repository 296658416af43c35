use Rattle.std.proofs.Common.{length}
use Rattle.worker_core.proofs.Keeping.{begins, keeps_first}
use Rattle.worker_core.proofs.Going.{held_first}
use Rattle.worker_core.proofs.run.Core.start.Goals as goal

pub invariant_of-result : goal.invariant_of-result
invariant_of-result g c = (
  c.in-Ok.ensures.fit,
  (
    keeps_first c.args.program.now c.args.tables.now c.args.records.now c.in-Ok.strands (length c.args.pool.kits) c.are_ready.ensures.ready c.are_ready.ensures.numbered c.requires.tables c.are_ready.ensures.checked c.are_ready.ensures.monoids c.requires.sound c.requires.values c.requires.in_step c.beginning.ensures.updates c.in-Ok.ensures.first,
    held_first c.args.program.now.codes c.args.program.now.kinds c.args.program.now.initials c.args.program.now.main (length c.args.pool.kits) c.args.workers c.in-Ok.strands c.in-Ok.ensures.first,
  ),
)

pub returns-in-Ok-clause-beginning : goal.returns-in-Ok-clause-beginning
returns-in-Ok-clause-beginning g c = begins c.args.program.now c.args.tables.now c.args.records.now c.in-Ok.strands (length c.args.pool.kits) c.are_ready.ensures.checked c.beginning.ensures.updates c.in-Ok.ensures.first
