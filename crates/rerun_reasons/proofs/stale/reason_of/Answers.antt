use Rattle.std.proofs.Common.{◌≡◌, IfOk, subst, sym}
use Rattle.rerun_reasons.proofs.Deep.{found_reason}
use Rattle.rerun_reasons.specs.declared.reason.Reason.{Reason}
use Rattle.rerun_reasons.proofs.stale.reason_of.Goals as goal

pub returns-in-Some : goal.returns-in-Some
returns-in-Some c =
    let s = c.args.setting in
    let e = c.args.executed.now in
    record {
      reason = subst (λ (r : Reason). IfOk c.stale_by.result (λ reason. reason ≡ r))
          (found_reason s.checked.now.revisions s.tables.now.tables e.procedure e.arguments.items s.records.now _ _ _ c.deref.ensures.value c.as_slice-records.ensures.records c.in-Some.ensures.found)
          c.stale_by.ensures.reason;
    }

pub returns-in-None : goal.returns-in-None
returns-in-None c =
    let s = c.args.setting in
    let e = c.args.executed.now in
    record {
      reason = found_reason s.checked.now.revisions s.tables.now.tables e.procedure e.arguments.items s.records.now _ _ _ c.deref.ensures.value c.as_slice-records.ensures.records c.in-None.ensures.found;
    }
