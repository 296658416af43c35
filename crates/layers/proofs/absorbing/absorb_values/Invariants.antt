use Rattle.std.proofs.Common.{◌≡◌, drop, map}
use Rattle.monoid_laws.specs.Kinds.{AreWorths}
use Rattle.record_theory.specs.Record.{touched}
use Rattle.record_theory.specs.Named.{AreValuesFrom}
use Rattle.instance_records.specs.Gifts.{given_by}
use Rattle.layers.specs.Folds.{combined_with}
use Rattle.layers.proofs.absorbing.absorb_values.Given as goal

abbrev pub invariant-loop-entry : goal.invariant-loop-entry
invariant-loop-entry g l = record {
  kinds : l.hypermap.kinds ≡ l.fn.hypermap.kinds;
  worths : AreWorths l.fn.hypermap.kinds l.hypermap.worths;
  values : AreValuesFrom 0 l.fn.hypermap.kinds (map touched (drop l.entry-index (map given_by l.values)));
  absorbed : combined_with (map touched (drop l.entry-index (map given_by l.values))) l.fn.hypermap.kinds l.hypermap.worths
      ≡ combined_with (map touched (map given_by l.values)) l.fn.hypermap.kinds l.fn.hypermap.worths;
}
