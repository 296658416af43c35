use Rattle.std.proofs.Common.{[], sym, subst}
use Rattle.rerun_records.specs.Skips.{PassBut}
use Rattle.rerun_records.proofs.Passing.{with_done}
use Rattle.rerun_records.proofs.skips.Skips.apart_to.Goals as goal

pub returns-clause-apart : goal.returns-clause-apart
returns-clause-apart c = λ records h.
    c.apart_in.ensures.apart records c.self.inside.done (subst (λ ss. PassBut [] records (with_done c.self.inside.done ss)) (sym c.deref.ensures.value) (subst (λ s. PassBut [] records s) (sym c.self.view_is) h))
