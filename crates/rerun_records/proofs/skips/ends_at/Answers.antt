use Rattle.std.proofs.Common.{◌-◌, true≢false, sym, ap, ◌∙◌, arith}
use Rattle.rerun_records.specs.Skips.{PlainSkip}
use Rattle.rerun_records.proofs.Passing.{there_skip}
use Rattle.rerun_records.proofs.skips.ends_at.Goals as goal

pub returns : goal.returns
returns c = record {
  ends = λ e. (
    omega (arith, c.if-count-eq0.false),
    λ s at. ap (λ (x : PlainSkip). x.until) (sym (there_skip c.args.skips.now (c.args.count - 1) c.index-skips-last.result s c.index-skips-last.is at)) ∙ sym c.until.ensures.until ∙ c.if-until-end.false,
  );
  other = λ e. absurd (true≢false e);
}
