use Rattle.std.proofs.Common.{drop}
use Rattle.linked_program.specs.Checked.{numbers_in}
use Rattle.record_index.specs.Told.{AreFirst}
use Rattle.record_index.proofs.told.Told.of.Given as goal

abbrev pub invariant-loop-declaration : goal.invariant-loop-declaration
invariant-loop-declaration l = AreFirst l.program.revisions (numbers_in l.names.items) (drop l.declaration-index l.declaration-items)
