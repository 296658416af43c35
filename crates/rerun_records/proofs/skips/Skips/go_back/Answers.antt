use Rattle.std.proofs.Common.{[], sym, subst}
use Rattle.rerun_records.specs.Skips.{PassBut}
use Rattle.rerun_records.proofs.Passing.{with_done}
use Rattle.rerun_records.proofs.skips.Skips.go_back.Goals as goal

pub returns : goal.returns
returns c = record {
  held = λ records h.
      subst (λ ss. PassBut [] records (with_done c.done_then-done.result ss)) c.deref.ensures.value
      (c.done_then-done.ensures.held records (subst (λ ss. PassBut [] records (with_done c.self.inside.done ss)) (sym c.deref.ensures.value) (subst (λ s. PassBut [] records s) (sym c.self.view_is) h)));
}
