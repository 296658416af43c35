use Rattle.std.proofs.Common.{◌∙◌, sym}
use Rattle.std.specs.List.{find}
use Rattle.record_theory.specs.Record.{is_of}
use Rattle.rerun_reasons.proofs.Deep.{deep_where_valid}
use Rattle.rerun_reasons.proofs.finding.with_reason.Goals as goal

pub returns : goal.returns
returns c =
    let s = c.args.setting in
    let e = c.args.executed in
    record {
      explained = record {
        unanswered = c.requires.unanswered;
        reason_is = c.in_ok-reason.ensures.reason;
        deep = λ same. deep_where_valid s.checked.now.revisions s.tables.now.tables e.depth (find (is_of e.procedure e.arguments.items) s.records.now) c.requires.unanswered
            (sym c.in_ok-reason.ensures.reason ∙ same);
      };
    }
