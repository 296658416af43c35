use Rattle.std.proofs.Common.{sym, ◌∙◌}
use Rattle.monoid_laws.proofs.SameKinds.{same_kinds}
use Rattle.rerun_records.proofs.blocks.are_same.Goals as goal

pub returns : goal.returns
returns c = record { same = λ e. same_kinds c.args.kinds.now c.args.others.now (sym c.eq.ensures ∙ e) }
