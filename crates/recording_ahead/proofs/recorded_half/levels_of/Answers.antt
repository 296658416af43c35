use Rattle.recording_ahead.proofs.Outcomes.{on_some}
use Rattle.recording_ahead.proofs.recorded_half.levels_of.Goals as goal

pub returns-clause-memo : goal.returns-clause-memo
returns-clause-memo g c = on_some c.levels.result (c.may_record.ensures.memo c.if-not-may_record.false)

pub returns-clause-counted : goal.returns-clause-counted
returns-clause-counted g c = on_some c.levels.result (c.may_record.ensures.counted c.if-not-may_record.false)

pub returns-clause-deep : goal.returns-clause-deep
returns-clause-deep g c = on_some c.levels.result (c.may_record.ensures.deep c.if-not-may_record.false)

pub returns-clause-children : goal.returns-clause-children
returns-clause-children g c = on_some c.levels.result (c.may_record.ensures.children c.if-not-may_record.false)

pub returns-clause-clear : goal.returns-clause-clear
returns-clause-clear g c = on_some c.levels.result (c.may_record.ensures.clear c.if-not-may_record.false)

pub returns-clause-fewer : goal.returns-clause-fewer
returns-clause-fewer g c = on_some c.levels.result (c.may_record.ensures.few c.if-not-may_record.false)

pub returns-clause-by_halves : goal.returns-clause-by_halves
returns-clause-by_halves g c = on_some c.levels.result (c.is_halved.ensures.halved c.if-not-is_halved.false)
