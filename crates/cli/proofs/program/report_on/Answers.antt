use Rattle.std.proofs.Common.{sym, subst}
use Rattle.kept_session.specs.Sessions.{PlainSession}
use Rattle.cli.specs.Reports.{IsOpened}
use Rattle.cli.proofs.program.report_on.Goals as goal

pub report_in-reported-requires-clause-opened : goal.report_in-reported-requires-clause-opened
report_in-reported-requires-clause-opened g c κs within =
    subst (λ (s : PlainSession). IsOpened (g.F.FileSource.held c.args.files.now) c.args.setting.now.options s.checked s.tables.tables) (sym c.make_blocks.ensures.same)
    c.in_ok-session.ensures.opened
