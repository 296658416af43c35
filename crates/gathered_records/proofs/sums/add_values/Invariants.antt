use Rattle.std.proofs.Common.{◌≡◌, drop, map}
use Rattle.monoid_laws.specs.Kinds.{operate_all, identities, AreWorths}
use Rattle.record_theory.specs.Record.{touched}
use Rattle.instance_records.specs.Gifts.{given_by}
use Rattle.record_theory.specs.Named.{AreValuesFrom, filled}
use Rattle.gathered_records.specs.Summing.{worth_in}
use Rattle.gathered_records.proofs.sums.add_values.Given as goal

abbrev pub invariant-loop-entry : goal.invariant-loop-entry
invariant-loop-entry l = record {
  worths : AreWorths l.kinds (map worth_in l.held.items);
  values : AreValuesFrom 0 l.kinds (map touched (drop l.entry-index (map given_by l.values)));
  added : operate_all l.kinds (map worth_in l.held.items) (filled (identities l.kinds) (map touched (drop l.entry-index (map given_by l.values))))
      ≡ operate_all l.kinds (map worth_in l.fn.held.items) (filled (identities l.kinds) (map touched (map given_by l.values)));
}
