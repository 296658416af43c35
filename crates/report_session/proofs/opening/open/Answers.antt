use Rattle.std.proofs.Common.{sym, subst}
use Rattle.report_session.specs.Opened.{IsProgramOver}
use Rattle.report_session.proofs.Results.{of_ok, unopened}
use Rattle.report_session.proofs.opening.open.Goals as goal

pub returns-in-Ok-clause-program : goal.returns-in-Ok-clause-program
returns-in-Ok-clause-program g c =
    of_ok c.begun.result _ _
    (λ session is. subst (IsProgramOver c.args.program.now c.args.tables.tables) (sym is) c.in-Ok.ensures.program)
    c.begun.ensures.program

pub returns-in-Ok-clause-refused : goal.returns-in-Ok-clause-refused
returns-in-Ok-clause-refused g c = unopened c.begun.result c.args.program.now c.args.tables.tables c.args.kits c.begun.ensures.refused

pub returns-in-Err-clause-refused : goal.returns-in-Err-clause-refused
returns-in-Err-clause-refused g c = c.in-Err.ensures.refused c.args.kits
