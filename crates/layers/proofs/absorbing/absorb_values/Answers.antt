use Rattle.std.proofs.Common.{rules, ◌≡◌, ◌<◌, ℕ, List, length, map, get_or, set, subst, sym}
use Rattle.monoid_laws.specs.declared.Kind.{Kind}
use Rattle.monoid_laws.specs.declared.Val.{Val}
use Rattle.monoid_laws.specs.Worth.{Worth}
use Rattle.monoid_laws.specs.Kinds.{operate, meaning}
use Rattle.record_theory.specs.Record.{touched}
use Rattle.instance_records.specs.Gifts.{given_by}
use Rattle.layers.specs.Folds.{combined_with}
use Rattle.record_theory.proofs.Absorbed.{turn_within, turn_of_kind, turn_values, turn_worths, turn_absorbed, turns_over}
use Rattle.instance_records.proofs.Givings.{gift_within, gift_at, gifts_over}
use Rattle.layers.proofs.absorbing.absorb_values.Goals as goal

pub absorb_gift-requires-clause-reducer_is : goal.absorb_gift-requires-clause-reducer_is
absorb_gift-requires-clause-reducer_is g c κs inside =
    let i = c.loop-entry.entry-index in
    let within = gift_within c.args.values.now c.loop-entry.entry-index c.loop-entry-test.true in
    let at = gift_at c.args.values.now c.loop-entry.entry-index c.entry-item.result c.loop-entry-test.true c.entry-item.is in
    subst (λ (ks : List Kind). (given_by c.entry-item.result).0 < length ks) (sym c.loop-entry.invariant.kinds)
    (turn_within c.args.hypermap.now.kinds (map given_by c.args.values.now) i (given_by c.entry-item.result) within at c.loop-entry.invariant.values)

pub absorb_gift-requires-clause-of_kind : goal.absorb_gift-requires-clause-of_kind
absorb_gift-requires-clause-of_kind g c κs inside k kind_at =
    let i = c.loop-entry.entry-index in
    let within = gift_within c.args.values.now c.loop-entry.entry-index c.loop-entry-test.true in
    let at = gift_at c.args.values.now c.loop-entry.entry-index c.entry-item.result c.loop-entry-test.true c.entry-item.is in
    turn_of_kind c.args.hypermap.now.kinds (map given_by c.args.values.now) i (given_by c.entry-item.result) within at c.loop-entry.invariant.values k
    (subst (λ (ks : List Kind). k ≡ get_or ks (given_by c.entry-item.result).0 k) c.loop-entry.invariant.kinds kind_at)

pub loop-entry-preserved : goal.loop-entry-preserved
loop-entry-preserved g c =
    let ks : List Kind = c.args.hypermap.now.kinds in
    let inv = c.loop-entry.invariant in
    let vs : List (ℕ × Val) = map given_by c.args.values.now in
    let i = c.loop-entry.entry-index in
    let e : ℕ × Val = given_by c.entry-item.result in
    let within = gift_within c.args.values.now c.loop-entry.entry-index c.loop-entry-test.true in
    let at = gift_at c.args.values.now c.loop-entry.entry-index c.entry-item.result c.loop-entry-test.true c.entry-item.is in
    let total : List Worth = combined_with (map touched (map given_by c.args.values.now)) c.args.hypermap.now.kinds c.args.hypermap.now.worths in
    let done : (k : Kind) (x : Worth) → k ≡ get_or c.args.hypermap.now.kinds (given_by c.entry-item.result).0 k → x ≡ get_or c.loop-entry.hypermap.worths (given_by c.entry-item.result).0 x
    → c.absorb_gift.new.hypermap.worths ≡ set c.loop-entry.hypermap.worths (given_by c.entry-item.result).0 (operate k x (meaning (given_by c.entry-item.result).1)) =
    λ k x p q. c.in_ok-absorb_gift.ensures.absorbed k x (subst (λ (cs : List Kind). k ≡ get_or cs (given_by c.entry-item.result).0 k) (sym c.loop-entry.invariant.kinds) p) q in
    record {
      kinds = search (rules, inv.kinds);
      worths = turn_worths ks vs i e within at inv.values c.loop-entry.hypermap.worths c.absorb_gift.new.hypermap.worths c.requires.monoids inv.worths done;
      values = turn_values ks vs i e within at inv.values;
      absorbed = turn_absorbed ks vs i e within at inv.values c.loop-entry.hypermap.worths c.absorb_gift.new.hypermap.worths c.requires.monoids inv.worths done total inv.absorbed;
    }

pub returns-clause-absorbed : goal.returns-clause-absorbed
returns-clause-absorbed g c =
    turns_over c.args.hypermap.now.kinds c.loop-entry.hypermap.worths _ (map given_by c.args.values.now) c.loop-entry.entry-index c.requires.monoids c.loop-entry.invariant.worths
    (gifts_over c.args.values.now c.loop-entry.entry-index (search rules)) c.loop-entry.invariant.absorbed
