use Rattle.std.proofs.Common.{arith}
use Rattle.std.proofs.lemmas.Bool.Decides.{nat_tests}
use Rattle.input_tables.proofs.Counts.{item_count-view}
use Rattle.input_tables.proofs.shapes.values_in.Goals as goal

pub returns-then-items-columns-clause-refused : goal.returns-then-items-columns-clause-refused
returns-then-items-columns-clause-refused c = rw (item_count-view c.args.items.now) (grind (arith, nat_tests))

pub returns-clause-read : goal.returns-clause-read
returns-clause-read c = rw (item_count-view c.args.items.now) (grind (arith, nat_tests, c.integers_in.ensures.read))
