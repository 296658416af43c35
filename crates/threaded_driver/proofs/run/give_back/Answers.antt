use Rattle.std.proofs.Common.{ap, map, subst, sym, ◌∙◌}
use Rattle.record_theory.specs.Record.{as_made}
use Rattle.record_theory.specs.Commits.{put_records}
use Rattle.kept_session.specs.Sessions.{AreNewFor}
use Rattle.session_runs.proofs.Outcomes.{news_of}
use Rattle.session_runs.proofs.Outcomes.{leaves_records}
use Rattle.threaded_driver.proofs.Settling.{recorded_by, quiet_whatever_kits}
use Rattle.threaded_driver.proofs.run.give_back.Goals as goal

pub settle-requires-clause-new : goal.settle-requires-clause-new
settle-requires-clause-new g c κs within =
    let s = c.args.session.now in
    let e = c.args.ended in
    let recorded = recorded_by s e.answer e.tally.made c.requires.end.recorded c.requires.end.alone in
    subst (λ made. AreNewFor s.checked s.tables made) (sym c.into_records.ensures.made)
    (news_of s.checked s.tables s.records e.answer e.tally.made recorded c.upheld.ensures.sound)

pub returns-in-Ok-clause-quiet : goal.returns-in-Ok-clause-quiet
returns-in-Ok-clause-quiet g c =
    let s = c.args.session.now in
    let e = c.args.ended in
    let recorded = recorded_by s e.answer e.tally.made c.requires.end.recorded c.requires.end.alone in
    quiet_whatever_kits s c.settle.new.self c.args.pool e.answer e.tally.made c.upheld.ensures.sound recorded c.in-Ok.ensures.settled
    (c.in-Ok.ensures.records ∙ ap (put_records (map as_made s.records)) c.into_records.ensures.made)

pub returns-in-Ok-clause-recorded : goal.returns-in-Ok-clause-recorded
returns-in-Ok-clause-recorded g c =
    let s = c.args.session.now in
    let e = c.args.ended in
    leaves_records s e.answer e.tally.made c.settle.new.self.records (recorded_by s e.answer e.tally.made c.requires.end.recorded c.requires.end.alone)
    (c.in-Ok.ensures.records ∙ ap (put_records (map as_made s.records)) c.into_records.ensures.made)
