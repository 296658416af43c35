use Rattle.worker_seats.proofs.Histories.{has_history}
use Rattle.worker_seats.proofs.ending.end_of.Goals as goal

pub returns-clause-end : goal.returns-clause-end
returns-clause-end g c =
    let setting = g.J.Run.setting in
    record {
      elision = c.end-answer.ensures.elision;
      given = c.end-answer.ensures.given;
      recorded = c.kept_of-tally.ensures.recorded setting c.end-answer.ensures.recorded;
      alone = c.kept_of-tally.ensures.alone;
      values = c.kept_of-tally.ensures.values setting c.end-answer.ensures.values;
      history_of = has_history c.end-answer.result.0 c.end-answer.result.2.items _ c.end-answer.ensures.history c.end-answer.ensures.legal;
    }
