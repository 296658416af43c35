use Rattle.std.proofs.Common.{◌≡◌, ◌<◌, List, OnOk, length, slice_set, sym, subst}
use Rattle.monoid_laws.specs.declared.Kind.{Kind}
use Rattle.monoid_laws.specs.Worth.{Worth}
use Rattle.monoid_laws.specs.Kinds.{operate, meaning}
use Rattle.hypermaps.specs.Layer.{IsAt}
use Rattle.instance_records.specs.Gifts.{given_by}
use Rattle.layers.proofs.absorbing.absorb_gift.Goals as goal

pub absorb_copy-requires-clause-reducer_is : goal.absorb_copy-requires-clause-reducer_is
absorb_copy-requires-clause-reducer_is g c κs within =
    subst (λ (ks : List Kind). (given_by c.args.gift.now).0 < length ks) (sym c.absorb_short.ensures.kinds) c.requires.reducer_is

pub absorb_copy-requires-clause-of_kind : goal.absorb_copy-requires-clause-of_kind
absorb_copy-requires-clause-of_kind g c κs within = λ k at.
    c.requires.of_kind k (subst (λ (ks : List Kind). IsAt ks (given_by c.args.gift.now).0 k) c.absorb_short.ensures.kinds at)

pub returns-then-absorb_short-clause-absorbed : goal.returns-then-absorb_short-clause-absorbed
returns-then-absorb_short-clause-absorbed g c = λ k x at held. c.absorb_short.ensures.absorbed k x at held c.if-absorb_short.true

pub returns-clause-absorbed : goal.returns-clause-absorbed
returns-clause-absorbed g c = λ k x at held.
    let i = (given_by c.args.gift.now).0 in
    let same : c.absorb_short.new.hypermap.worths ≡ c.args.hypermap.now.worths = c.absorb_short.ensures.same c.if-absorb_short.false in
    subst (λ (ws : List Worth). OnOk c.absorb_copy.result (c.absorb_copy.new.hypermap.worths ≡ slice_set ws i (operate k x (meaning (given_by c.args.gift.now).1)))) same
    (c.absorb_copy.ensures.absorbed k x (subst (λ (ks : List Kind). IsAt ks i k) (sym c.absorb_short.ensures.kinds) at) (subst (λ (ws : List Worth). IsAt ws i x) (sym same) held))
