use Rattle.std.proofs.Common.{◌≡◌, true, All, subst}
use Rattle.worker_core.specs.Cores.{PlainCore, is_over}
use Rattle.worker_core.specs.Keeps.{AnswersElision, IsGiven, ComesToEnd, HasRecorded, StaySound}
use Rattle.worker_core.proofs.Ends.{IsElision-end, IsGiven-over, comes_to_end}
use Rattle.worker_core.proofs.Recording.{recorded, stay_sound}
use Rattle.worker_core.proofs.run.Core.finish.Goals as goal

pub returns-clause-elision : goal.returns-clause-elision
returns-clause-elision g c =
    subst (λ (core : PlainCore). AnswersElision core c.end.result.0) c.self.view_is
    (IsElision-end c.self.inside.program.now c.self.inside.tables.now c.self.inside.records.now c.self.inside.failed c.self.inside.workers c.self.inside.strands c.end.result.0 c.self.invariant.1 c.end.ensures.end)

pub returns-clause-over : goal.returns-clause-over
returns-clause-over g c =
    subst (λ (core : PlainCore). is_over core ≡ true → IsGiven c.end.result.0) c.self.view_is
    (IsGiven-over c.self.inside.program.now c.self.inside.tables.now c.self.inside.records.now c.self.inside.failed c.self.inside.workers c.self.inside.strands c.end.result.0 c.self.invariant.1 c.end.ensures.end)

pub returns-clause-comes : goal.returns-clause-comes
returns-clause-comes g c =
    let core : PlainCore = record { program = c.self.inside.program.now; tables = c.self.inside.tables.now; records = c.self.inside.records.now; strands = c.self.inside.strands; workers = c.self.inside.workers; failed = c.self.inside.failed } in
    subst (λ (x : PlainCore). ComesToEnd x c.end.result.0) c.self.view_is (comes_to_end core c.end.result.0 c.self.invariant.1 c.end.ensures.end)

pub returns-clause-kinds : goal.returns-clause-kinds
returns-clause-kinds g c =
    subst (λ (core : PlainCore). All (λ k. k ≡ core.program.kinds) c.end.result.1.kits) c.self.view_is (c.end.ensures.kinds c.self.inside.program.now.kinds c.self.invariant.0)

pub returns-clause-recorded : goal.returns-clause-recorded
returns-clause-recorded g c =
    let core : PlainCore = record { program = c.self.inside.program.now; tables = c.self.inside.tables.now; records = c.self.inside.records.now; strands = c.self.inside.strands; workers = c.self.inside.workers; failed = c.self.inside.failed } in
    subst (λ (x : PlainCore). HasRecorded x c.end.result.0 c.end.result.2.items) c.self.view_is (recorded core c.end.result.0 c.end.result.2.items c.self.invariant.1 c.end.ensures.end c.end.ensures.made)

pub returns-clause-sound : goal.returns-clause-sound
returns-clause-sound g c =
    let core : PlainCore = record { program = c.self.inside.program.now; tables = c.self.inside.tables.now; records = c.self.inside.records.now; strands = c.self.inside.strands; workers = c.self.inside.workers; failed = c.self.inside.failed } in
    subst (λ (x : PlainCore). StaySound x c.end.result.2.items) c.self.view_is (stay_sound core c.end.result.0 c.end.result.2.items c.self.invariant.1 c.end.ensures.end c.end.ensures.made)
