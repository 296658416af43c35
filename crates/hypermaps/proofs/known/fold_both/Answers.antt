use Rattle.std.proofs.Common.{◌≡◌, sym, ◌∙◌, subst, map, List, get_or}
use Rattle.std.specs.Prelude.{All}
use Rattle.std.proofs.Math.ListN.{length-map}
use Rattle.monoid_laws.specs.Worth.{Worth}
use Rattle.monoid_laws.specs.Kinds.{IsMonoid, identity_of, meaning, operate_all}
use Rattle.monoid_laws.specs.declared.Kind.{Kind}
use Rattle.view_pool.specs.Short.{value_in}
use Rattle.hypermaps.proofs.Knowing.{first_within, second_within, kind_at, within_kinds, first_there, second_there, worths_back, layer_by, both_back}
use Rattle.hypermaps.proofs.known.fold_both.Goals as goal

pub fold_known_at-requires-clause-reducer_is : goal.fold_known_at-requires-clause-reducer_is
fold_known_at-requires-clause-reducer_is g c κs within = first_within g.V.View.worth_of c.args.right.now.items (meaning (value_in c.args.first)) (meaning (value_in c.args.second)) c.requires.known

pub fold_known_at-requires-clause-known : goal.fold_known_at-requires-clause-known
fold_known_at-requires-clause-known g c κs within = first_there (map g.V.View.worth_of c.args.right.now.items) (meaning (value_in c.args.first)) (meaning (value_in c.args.second)) c.requires.known

pub fold_known_at-requires-2-clause-reducer_is : goal.fold_known_at-requires-2-clause-reducer_is
fold_known_at-requires-2-clause-reducer_is g c κs within =
    second_within g.V.View.kind_of g.V.View.worth_of c.args.right.now.items c.fold_known_at.new.right.items (meaning (value_in c.args.first)) (meaning (value_in c.args.second)) c.requires.known c.fold_known_at.ensures.right_kinds

pub fold_known_at-requires-2-clause-kinds : goal.fold_known_at-requires-2-clause-kinds
fold_known_at-requires-2-clause-kinds g c κs within = c.fold_known_at.ensures.left_kinds ∙ c.requires.kinds ∙ sym c.fold_known_at.ensures.right_kinds

pub fold_known_at-requires-2-clause-right_values : goal.fold_known_at-requires-2-clause-right_values
fold_known_at-requires-2-clause-right_values g c κs within =
    let k : (x : Kind) × (x ≡ get_or (map g.V.View.kind_of c.args.right.now.items) 0 x) = kind_at g.V.View.kind_of c.args.right.now.items 0 (first_within g.V.View.worth_of c.args.right.now.items (meaning (value_in c.args.first)) (meaning (value_in c.args.second)) c.requires.known) in
    worths_back (map g.V.View.kind_of c.args.right.now.items) (map g.V.View.kind_of c.fold_known_at.new.right.items) (map g.V.View.worth_of c.args.right.now.items) (map g.V.View.worth_of c.fold_known_at.new.right.items) 0 k.0 c.fold_known_at.ensures.right_kinds
    (c.fold_known_at.ensures.moved k.0 k.1 c.if-not-fold_known_at.false) k.1 c.requires.right_values

pub fold_known_at-requires-2-clause-monoids : goal.fold_known_at-requires-2-clause-monoids
fold_known_at-requires-2-clause-monoids g c κs within = subst (λ (cs : List Kind). All IsMonoid cs) (sym c.fold_known_at.ensures.left_kinds) c.requires.monoids

pub fold_known_at-requires-2-clause-known : goal.fold_known_at-requires-2-clause-known
fold_known_at-requires-2-clause-known g c κs within =
    let k : (x : Kind) × (x ≡ get_or (map g.V.View.kind_of c.args.right.now.items) 0 x) = kind_at g.V.View.kind_of c.args.right.now.items 0 (first_within g.V.View.worth_of c.args.right.now.items (meaning (value_in c.args.first)) (meaning (value_in c.args.second)) c.requires.known) in
    second_there (map g.V.View.worth_of c.args.right.now.items) (map g.V.View.worth_of c.fold_known_at.new.right.items) (meaning (value_in c.args.first)) (meaning (value_in c.args.second)) (identity_of k.0) c.requires.known (c.fold_known_at.ensures.moved k.0 k.1 c.if-not-fold_known_at.false)

pub returns-then-not-fold_known_at-clause-right_layer : goal.returns-then-not-fold_known_at-clause-right_layer
returns-then-not-fold_known_at-clause-right_layer g c = λ used l.
    let k : (x : Kind) × (x ≡ get_or (map g.V.View.kind_of c.args.right.now.items) 0 x) = kind_at g.V.View.kind_of c.args.right.now.items 0 (first_within g.V.View.worth_of c.args.right.now.items (meaning (value_in c.args.first)) (meaning (value_in c.args.second)) c.requires.known) in
    layer_by c.fold_known_at.result (map g.V.View.kind_of c.args.right.now.items) (map g.V.View.kind_of c.fold_known_at.new.right.items) (map g.V.View.worth_of c.args.right.now.items) (map g.V.View.worth_of c.fold_known_at.new.right.items) used 0 k.0 c.fold_known_at.ensures.right_kinds
    (c.fold_known_at.ensures.moved k.0 k.1) c.fold_known_at.ensures.same (within_kinds g.V.View.kind_of c.args.right.now.items 0 (first_within g.V.View.worth_of c.args.right.now.items (meaning (value_in c.args.first)) (meaning (value_in c.args.second)) c.requires.known)) k.1 l

pub returns-clause-right_layer : goal.returns-clause-right_layer
returns-clause-right_layer g c = λ used l.
    let k : (x : Kind) × (x ≡ get_or (map g.V.View.kind_of c.args.right.now.items) 0 x) = kind_at g.V.View.kind_of c.args.right.now.items 0 (first_within g.V.View.worth_of c.args.right.now.items (meaning (value_in c.args.first)) (meaning (value_in c.args.second)) c.requires.known) in
    let j : (x : Kind) × (x ≡ get_or (map g.V.View.kind_of c.fold_known_at.new.right.items) 1 x) = kind_at g.V.View.kind_of c.fold_known_at.new.right.items 1 (second_within g.V.View.kind_of g.V.View.worth_of c.args.right.now.items c.fold_known_at.new.right.items (meaning (value_in c.args.first)) (meaning (value_in c.args.second)) c.requires.known c.fold_known_at.ensures.right_kinds) in
    layer_by c.fold_known_at-2.result (map g.V.View.kind_of c.fold_known_at.new.right.items) (map g.V.View.kind_of c.fold_known_at-2.new.right.items) (map g.V.View.worth_of c.fold_known_at.new.right.items) (map g.V.View.worth_of c.fold_known_at-2.new.right.items) used 1 j.0 c.fold_known_at-2.ensures.right_kinds
    (c.fold_known_at-2.ensures.moved j.0 j.1) c.fold_known_at-2.ensures.same (within_kinds g.V.View.kind_of c.fold_known_at.new.right.items 1 (second_within g.V.View.kind_of g.V.View.worth_of c.args.right.now.items c.fold_known_at.new.right.items (meaning (value_in c.args.first)) (meaning (value_in c.args.second)) c.requires.known c.fold_known_at.ensures.right_kinds)) j.1
    (layer_by c.fold_known_at.result (map g.V.View.kind_of c.args.right.now.items) (map g.V.View.kind_of c.fold_known_at.new.right.items) (map g.V.View.worth_of c.args.right.now.items) (map g.V.View.worth_of c.fold_known_at.new.right.items) used 0 k.0 c.fold_known_at.ensures.right_kinds
    (c.fold_known_at.ensures.moved k.0 k.1) c.fold_known_at.ensures.same (within_kinds g.V.View.kind_of c.args.right.now.items 0 (first_within g.V.View.worth_of c.args.right.now.items (meaning (value_in c.args.first)) (meaning (value_in c.args.second)) c.requires.known)) k.1 l)

pub returns-clause-product : goal.returns-clause-product
returns-clause-product g c =
    subst (λ (cs : List Kind). operate_all cs (map g.V.View.worth_of c.fold_known_at-2.new.left.items) (map g.V.View.worth_of c.fold_known_at-2.new.right.items) ≡ operate_all cs (map g.V.View.worth_of c.fold_known_at.new.left.items) (map g.V.View.worth_of c.fold_known_at.new.right.items)) c.fold_known_at.ensures.left_kinds c.fold_known_at-2.ensures.product
    ∙ c.fold_known_at.ensures.product

pub returns-clause-emptied : goal.returns-clause-emptied
returns-clause-emptied g c = λ d.
    let k : (x : Kind) × (x ≡ get_or (map g.V.View.kind_of c.args.right.now.items) 0 x) = kind_at g.V.View.kind_of c.args.right.now.items 0 (first_within g.V.View.worth_of c.args.right.now.items (meaning (value_in c.args.first)) (meaning (value_in c.args.second)) c.requires.known) in
    let j : (x : Kind) × (x ≡ get_or (map g.V.View.kind_of c.fold_known_at.new.right.items) 1 x) = kind_at g.V.View.kind_of c.fold_known_at.new.right.items 1 (second_within g.V.View.kind_of g.V.View.worth_of c.args.right.now.items c.fold_known_at.new.right.items (meaning (value_in c.args.first)) (meaning (value_in c.args.second)) c.requires.known c.fold_known_at.ensures.right_kinds) in
    both_back (map g.V.View.kind_of c.args.right.now.items) (map g.V.View.worth_of c.args.right.now.items) (map g.V.View.worth_of c.fold_known_at.new.right.items) (map g.V.View.worth_of c.fold_known_at-2.new.right.items) (meaning (value_in c.args.first)) (meaning (value_in c.args.second)) k.0 j.0 (length-map c.args.right.now.items g.V.View.kind_of ∙ sym (length-map c.args.right.now.items g.V.View.worth_of)) c.requires.known k.1
    (subst (λ (cs : List Kind). j.0 ≡ get_or cs 1 j.0) c.fold_known_at.ensures.right_kinds j.1)
    (c.fold_known_at.ensures.moved k.0 k.1 c.if-not-fold_known_at.false) (c.fold_known_at-2.ensures.moved j.0 j.1 d)
