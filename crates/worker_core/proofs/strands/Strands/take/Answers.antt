use Rattle.worker_core.proofs.Steps.{stepped_at, refused_at}
use Rattle.worker_core.proofs.strands.Strands.take.Goals as goal

pub returns-in-Stall-clause-taken : goal.returns-in-Stall-clause-taken
returns-in-Stall-clause-taken g c =
    stepped_at c.args.setting.program.now c.args.setting.tables.now c.args.setting.records.now c.stall.result c.args.step.now _ c.args.self.now c.stall.new.self c.in-Stall.is c.stall.ensures.taken

pub returns-in-Stall-clause-refused : goal.returns-in-Stall-clause-refused
returns-in-Stall-clause-refused g c =
    refused_at c.args.setting.program.now c.args.setting.tables.now c.args.setting.records.now c.stall.result c.args.step.now _ c.args.self.now c.in-Stall.is c.stall.ensures.refused
