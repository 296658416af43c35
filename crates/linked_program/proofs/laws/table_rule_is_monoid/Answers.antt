use Rattle.linked_program.proofs.Tried.{monoid_from_true, true_from_monoid}
use Rattle.linked_program.proofs.laws.table_rule_is_monoid.Goals as goal

pub returns : goal.returns
returns c = record { monoid = (monoid_from_true c.args.table.now, true_from_monoid c.args.table.now) }
