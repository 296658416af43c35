use Rattle.std.proofs.Common.{ap, ◌∙◌}
use Rattle.linked_program.specs.Checked.{PlainChecked, number_in}
use Rattle.linked_program.proofs.Named.{revision_if}
use Rattle.linked_program.proofs.checked.Checked.revision.Goals as goal

pub returns-clause-number : goal.returns-clause-number
returns-clause-number c = (rw c.deref.ensures.value at c.number_of.ensures) ∙ ap (λ (s : PlainChecked). number_in s.revisions c.args.name.now) c.self.view_is

pub returns-clause-revision : goal.returns-clause-revision
returns-clause-revision c = revision_if c.args.self.now.revisions c.args.name.now c.number_of.result (returns-clause-number c)
