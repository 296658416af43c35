use Rattle.std.proofs.Common.{subst}
use Rattle.rerun_records.specs.Skips.{PlainSkip, IsInHull}
use Rattle.rerun_records.proofs.skips.Skip.lies_in.Goals as goal

pub returns : goal.returns
returns c = record { lies = λ e. subst (λ (s : PlainSkip). IsInHull s.hull c.args.hull.now) c.self.view_is (c.holds.ensures.held e) }
