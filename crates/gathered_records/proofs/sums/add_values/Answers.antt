use Rattle.std.proofs.Common.{rules, ℕ, List, map}
use Rattle.monoid_laws.specs.declared.Kind.{Kind}
use Rattle.monoid_laws.specs.declared.Val.{Val}
use Rattle.monoid_laws.specs.Worth.{Worth}
use Rattle.monoid_laws.specs.Kinds.{operate_all, identities}
use Rattle.record_theory.specs.Record.{touched}
use Rattle.record_theory.specs.Named.{filled}
use Rattle.instance_records.specs.Gifts.{given_by}
use Rattle.gathered_records.specs.Summing.{worth_in}
use Rattle.record_theory.proofs.Absorbed.{turn_within, turn_of_kind, turn_values, turn_worths, turn_absorbed, turns_over}
use Rattle.instance_records.proofs.Givings.{gift_within, gift_at, gifts_over}
use Rattle.gathered_records.proofs.sums.add_values.Goals as goal

pub add_gift-requires : goal.add_gift-requires
add_gift-requires c =
    let vs : List (ℕ × Val) = map given_by c.args.values.now in
    let i = c.loop-entry.entry-index in
    let e : ℕ × Val = given_by c.entry-item.result in
    let within = gift_within c.args.values.now c.loop-entry.entry-index c.loop-entry-test.true in
    let at = gift_at c.args.values.now c.loop-entry.entry-index c.entry-item.result c.loop-entry-test.true c.entry-item.is in
    record {
      there = turn_within c.args.kinds.now vs i e within at c.loop-entry.invariant.values;
      worths = c.loop-entry.invariant.worths;
      of_kind = turn_of_kind c.args.kinds.now vs i e within at c.loop-entry.invariant.values;
    }

pub loop-entry-preserved : goal.loop-entry-preserved
loop-entry-preserved c =
    let ks : List Kind = c.args.kinds.now in
    let vs : List (ℕ × Val) = map given_by c.args.values.now in
    let i = c.loop-entry.entry-index in
    let e : ℕ × Val = given_by c.entry-item.result in
    let within = gift_within c.args.values.now c.loop-entry.entry-index c.loop-entry-test.true in
    let at = gift_at c.args.values.now c.loop-entry.entry-index c.entry-item.result c.loop-entry-test.true c.entry-item.is in
    let inv = c.loop-entry.invariant in
    let before : List Worth = map worth_in c.loop-entry.held.items in
    let after : List Worth = map worth_in c.add_gift.new.held.items in
    let total : List Worth = operate_all c.args.kinds.now (map worth_in c.args.held.now.items) (filled (identities c.args.kinds.now) (map touched (map given_by c.args.values.now))) in
    record {
      worths = turn_worths ks vs i e within at inv.values before after c.requires.monoids inv.worths c.in_ok-add_gift.ensures.added;
      values = turn_values ks vs i e within at inv.values;
      added = turn_absorbed ks vs i e within at inv.values before after c.requires.monoids inv.worths c.in_ok-add_gift.ensures.added total inv.added;
    }

pub returns : goal.returns
returns c = record {
  added = turns_over c.args.kinds.now (map worth_in c.loop-entry.held.items) _ (map given_by c.args.values.now) c.loop-entry.entry-index c.requires.monoids c.loop-entry.invariant.worths
      (gifts_over c.args.values.now c.loop-entry.entry-index (search rules)) c.loop-entry.invariant.added;
}
