use Rattle.std.proofs.Common.{◌∙◌}
use Rattle.linked_program.proofs.Tried.{answer_is}
use Rattle.single_rules.proofs.heads.is_monoid.Goals as goal

pub returns-in-Table : goal.returns-in-Table
returns-in-Table c = rw c.in-Table.is (c.says_monoid.ensures ∙ answer_is c.in-Table.table c.check_table.result c.check_table.ensures)
