use Rattle.std.proofs.Common.{[], sym, subst}
use Rattle.rerun_records.specs.Skips.{PassBut}
use Rattle.rerun_records.proofs.Passing.{more_pass}
use Rattle.rerun_records.proofs.skips.Skips.pass.Goals as goal

pub returns-clause-held : goal.returns-clause-held
returns-clause-held c = λ h.
    let all = subst (λ s. PassBut [] c.args.list.now s) (sym c.self.view_is) h in
    let next = c.next_around-next in
    more_pass [] c.args.list.now c.self.inside.done next.result c.self.inside.list.items all next.ensures.from (next.ensures.until all.full)
