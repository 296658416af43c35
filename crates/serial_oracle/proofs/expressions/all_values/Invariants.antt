use Rattle.std.proofs.Common.{◌≡◌, map, drop}
use Rattle.meaning.specs.TreeView.{term}
use Rattle.serial_oracle.specs.Listing.{tables_plain}
use Rattle.meaning.specs.Values.{values}
use Rattle.serial_oracle.proofs.Evaluating.{before}
use Rattle.serial_oracle.proofs.expressions.all_values.Given as goal

abbrev pub invariant-loop-e : goal.invariant-loop-e
invariant-loop-e l = (values (tables_plain l.tables) l.env (map term l.es)).answer ≡ before l.vs.items (values (tables_plain l.tables) l.env (map term (drop l.e-index l.es))).answer
