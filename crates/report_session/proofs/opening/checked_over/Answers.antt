use Rattle.meaning.specs.TreeView.{tree, lines}
use Rattle.report_session.proofs.opening.checked_over.Goals as goal

pub returns-in-Err-clause-refused : goal.returns-in-Err-clause-refused
returns-in-Err-clause-refused c kits =
    c.text_refusal.ensures c.args.program.now c.args.tables.now.tables kits c.in-Err.ensures.fault c.in-Err.ensures.only

pub returns-in-Err-check-clause-refused : goal.returns-in-Err-check-clause-refused
returns-in-Err-check-clause-refused c kits =
    c.check_refusal.ensures.refused c.args.program.now c.args.tables.now.tables kits (tree c.in-Ok.tree) (lines c.in-Ok.tree)
    c.in-Ok.ensures.found c.in-Err-check.ensures.refused
