use Rattle.std.proofs.Common.{◌≡◌, true, subst}
use Rattle.meaning.specs.Every.{every}
use Rattle.instance_records.specs.Spans.{is_covered_by}
use Rattle.rerun_records.specs.Skips.{PlainSkip}
use Rattle.rerun_records.proofs.Passing.{there_skip}
use Rattle.rerun_records.proofs.skips.has.Goals as goal

pub returns : goal.returns
returns c = record {
  has = λ e s at.
      subst (λ (x : PlainSkip). every (is_covered_by x.hull) c.args.reads.now ≡ true) (there_skip c.args.skips.now c.args.number c.index-skips-number.result s c.index-skips-number.is at) (c.has.ensures.has e);
}
