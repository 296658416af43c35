use Rattle.std.proofs.Common.{◌≡◌, map}
use Rattle.monoid_laws.specs.Kinds.{meaning, operate_all, AreWorths}
use Rattle.serial_oracle.specs.Worths.{combined_from}
use Rattle.serial_oracle.proofs.updates.combine_all.Given as goal

abbrev pub invariant-loop-i : goal.invariant-loop-i
invariant-loop-i l = record {
  so_far : combined_from l.i l.kinds (map meaning l.values.items) (map meaning l.rights) ≡ operate_all l.kinds (map meaning l.initial.values.items) (map meaning l.rights);
  of_kinds : AreWorths l.kinds (map meaning l.values.items);
}
