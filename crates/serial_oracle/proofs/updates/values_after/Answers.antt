use Rattle.std.proofs.Common.{ap, ◌∙◌, map}
use Rattle.monoid_laws.specs.Kinds.{meaning, identities}
use Rattle.serial_oracle.specs.Keeping.{tree_in, records_in}
use Rattle.serial_oracle.proofs.Noted.{worths_begin}
use Rattle.serial_oracle.proofs.updates.values_after.Goals as goal

pub loop-change-init : goal.loop-change-init
loop-change-init c = worths_begin (tree_in c.args.scope.now) (records_in c.args.scope.now) c.args.changes.now (map meaning c.in_ok-values.values.items) (rw c.deref.ensures.value at c.in_ok-values.ensures ∙ ap identities c.in_ok-kinds.ensures)
