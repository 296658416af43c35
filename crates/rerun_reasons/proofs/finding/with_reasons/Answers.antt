use Rattle.std.proofs.Common.{arith, [], ◌∷◌, subst, sym}
use Rattle.std.proofs.lemmas.List.Elements.{All-append, All-cons, All-tail}
use Rattle.std.specs.Prelude.{All}
use Rattle.rerun_reasons.specs.Unanswered.{AreExplained, AreUnanswered, IsExplained, IsUnanswered}
use Rattle.rerun_reasons.proofs.finding.with_reasons.Goals as goal

pub loop-executed-preserved : goal.loop-executed-preserved
loop-executed-preserved c =
    let s = c.args.setting in
    let one = IsExplained s.checked.now.revisions s.tables.now.tables s.records.now in
    let made = c.in_ok-with_reason.field-0 in
    record {
      can_next = tt;
      is_finite = tt;
      rest = All-tail (IsUnanswered s) c.in-Some.executed _ (subst (AreUnanswered s) (c.in-Some.ensures.steps.0) c.loop-executed.invariant.rest);
      explained = subst (All one) (sym c.in_ok-push.ensures.items) (All-append one c.loop-executed.explained.items (made ∷ []) c.loop-executed.invariant.explained (All-cons one made [] c.in_ok-with_reason.ensures.explained (λ k d h. absurd (omega arith))));
    }
