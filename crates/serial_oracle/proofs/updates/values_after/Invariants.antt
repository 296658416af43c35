use Rattle.std.proofs.Common.{◌≡◌, map, drop}
use Rattle.monoid_laws.specs.Kinds.{meaning, AreWorths}
use Rattle.meaning.specs.Outcome.{after}
use Rattle.serial_oracle.specs.Keeping.{tree_in, records_in}
use Rattle.serial_oracle.specs.Worths.{kinds, worths, noted}
use Rattle.serial_oracle.proofs.updates.values_after.Given as goal

abbrev pub invariant-loop-change : goal.invariant-loop-change
invariant-loop-change l =
    (worths (tree_in l.scope) (records_in l.scope) l.changes ≡ after (noted (tree_in l.scope) (records_in l.scope) (drop l.change-index l.changes)) (map meaning l.values.items))
    × AreWorths (kinds (tree_in l.scope)) (map meaning l.values.items)
