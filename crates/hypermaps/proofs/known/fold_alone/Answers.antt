use Rattle.std.proofs.Common.{◌≡◌, sym, ◌∙◌, map, get_or}
use Rattle.std.proofs.Math.ListN.{length-map}
use Rattle.monoid_laws.specs.Kinds.{meaning}
use Rattle.monoid_laws.specs.declared.Kind.{Kind}
use Rattle.view_pool.specs.Short.{value_in}
use Rattle.hypermaps.proofs.Knowing.{alone_within, alone_there, alone_back, kind_at, within_kinds, layer_by}
use Rattle.hypermaps.proofs.known.fold_alone.Goals as goal

pub fold_known_at-requires-clause-reducer_is : goal.fold_known_at-requires-clause-reducer_is
fold_known_at-requires-clause-reducer_is g c κs within = alone_within g.V.View.worth_of c.args.right.now.items (meaning (value_in c.args.value)) c.requires.known

pub fold_known_at-requires-clause-known : goal.fold_known_at-requires-clause-known
fold_known_at-requires-clause-known g c κs within = alone_there (map g.V.View.worth_of c.args.right.now.items) (meaning (value_in c.args.value)) c.requires.known

pub returns-clause-right_layer : goal.returns-clause-right_layer
returns-clause-right_layer g c = λ used l.
    let some = alone_within g.V.View.worth_of c.args.right.now.items (meaning (value_in c.args.value)) c.requires.known in
    let k : (x : Kind) × (x ≡ get_or (map g.V.View.kind_of c.args.right.now.items) 0 x) = kind_at g.V.View.kind_of c.args.right.now.items 0 some in
    layer_by c.fold_known_at.result (map g.V.View.kind_of c.args.right.now.items) (map g.V.View.kind_of c.fold_known_at.new.right.items) (map g.V.View.worth_of c.args.right.now.items) (map g.V.View.worth_of c.fold_known_at.new.right.items) used 0 k.0 c.fold_known_at.ensures.right_kinds
    (c.fold_known_at.ensures.moved k.0 k.1) c.fold_known_at.ensures.same (within_kinds g.V.View.kind_of c.args.right.now.items 0 some) k.1 l

pub returns-clause-emptied : goal.returns-clause-emptied
returns-clause-emptied g c = λ d.
    let some = alone_within g.V.View.worth_of c.args.right.now.items (meaning (value_in c.args.value)) c.requires.known in
    let k : (x : Kind) × (x ≡ get_or (map g.V.View.kind_of c.args.right.now.items) 0 x) = kind_at g.V.View.kind_of c.args.right.now.items 0 some in
    alone_back (map g.V.View.kind_of c.args.right.now.items) (map g.V.View.worth_of c.args.right.now.items) (map g.V.View.worth_of c.fold_known_at.new.right.items) (meaning (value_in c.args.value)) k.0
    (length-map c.args.right.now.items g.V.View.kind_of ∙ sym (length-map c.args.right.now.items g.V.View.worth_of)) c.requires.known k.1 (c.fold_known_at.ensures.moved k.0 k.1 d)
