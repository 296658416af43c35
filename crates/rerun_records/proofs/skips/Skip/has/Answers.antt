use Rattle.std.proofs.Common.{◌≡◌, true, subst}
use Rattle.meaning.specs.Every.{every}
use Rattle.instance_records.specs.Spans.{is_covered_by}
use Rattle.rerun_records.specs.Skips.{PlainSkip}
use Rattle.rerun_records.proofs.skips.Skip.has.Goals as goal

pub returns : goal.returns
returns c = record { has = λ e. subst (λ (s : PlainSkip). every (is_covered_by s.hull) c.args.reads.now ≡ true) c.self.view_is (c.has.ensures.has e) }
