use Rattle.std.proofs.Common.{rules, ◌≡◌, ◌<◌, List, length, map, subst, sym}
use Rattle.std.specs.Prelude.{option_to_list, IfOk}
use Rattle.monoid_laws.specs.Worth.{Worth}
use Rattle.monoid_laws.specs.Kinds.{meaning}
use Rattle.hypermaps.specs.Layer.{IsAt}
use Rattle.record_theory.specs.Record.{touched}
use Rattle.instance_records.specs.Gifts.{given_by}
use Rattle.positions.specs.Tallies.{touched_at}
use Rattle.record_theory.proofs.Absorbed.{each, same_at}
use Rattle.layers.proofs.Touches.{some_is, identity_untouched}
use Rattle.layers.proofs.few_values.touched_value.Goals as goal

pub returns-in-Some : goal.returns-in-Some
returns-in-Some g c = record {
  touched = λ w at.
      let ws : List Worth = c.args.hypermap.now.worths in
      let less : c.args.reducer < length c.args.hypermap.now.worths = subst (λ n. c.args.reducer < n) (each c.args.hypermap.now.kinds ws c.len.ensures.worths) c.requires.there in
      let held : IsAt c.args.hypermap.now.worths c.args.reducer (meaning c.in-Some.value) =
      some_is (λ v. IsAt c.args.hypermap.now.worths c.args.reducer (meaning v)) c.in_ok-value.field-0 c.in-Some.value c.in-Some.is c.in_ok-value.ensures.used in
      let same : meaning c.in-Some.value ≡ w = same_at ws c.args.reducer (meaning c.in-Some.value) w less held at in
      subst (λ v. IfOk c.kept_value.result (λ k. map touched (map given_by (option_to_list k)) ≡ touched_at c.args.reducer c.args.kind.now v)) same c.kept_value.ensures.touched;
}

pub returns-in-None : goal.returns-in-None
returns-in-None g c = record {
  touched = λ w at.
      sym (identity_untouched c.args.reducer c.args.kind.now w (c.in_ok-value.ensures.unused (search rules) c.args.kind.now w c.requires.kind at));
}
