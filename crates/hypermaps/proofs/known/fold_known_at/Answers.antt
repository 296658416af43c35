use Rattle.std.proofs.Common.{◌≡◌, sym, ◌∙◌, subst, map, List, set}
use Rattle.monoid_laws.specs.Kinds.{IsWorth, meaning, operate_all}
use Rattle.monoid_laws.specs.declared.Kind.{Kind}
use Rattle.hypermaps.specs.Layer.{used_also}
use Rattle.view_pool.specs.Short.{value_in}
use Rattle.hypermaps.proofs.Layers as f
use Rattle.hypermaps.proofs.Knowing.{result_of, on_done, on_undone, if_done, if_undone}
use Rattle.hypermaps.proofs.known.fold_known_at.Goals as goal

pub move_known-requires-clause-same_kind : goal.move_known-requires-clause-same_kind
move_known-requires-clause-same_kind g c κs within = f.fold-same_kind g.V.View.kind_of g.V.View.worth_of c.args.left.now.items c.args.right.now.items c.args.r c.index_mut-l.result.now c.index_mut-q.result.now c.args.left_used.now.items c.requires.reducer_is c.requires.kinds c.index_mut-l.ensures.value c.index_mut-q.ensures.value c.requires.left_layer c.requires.right_values c.requires.monoids

pub move_known-requires-clause-known : goal.move_known-requires-clause-known
move_known-requires-clause-known g c κs within =
    sym (f.at_map g.V.View.worth_of c.args.right.now.items c.args.r c.index_mut-q.result.now (meaning (value_in c.args.value)) c.requires.reducer_is c.index_mut-q.ensures.value c.requires.known)

pub move_known-requires-clause-of_kind : goal.move_known-requires-clause-of_kind
move_known-requires-clause-of_kind g c κs within =
    subst (λ w. IsWorth (g.V.View.kind_of c.index_mut-l.result.now) w) (move_known-requires-clause-known g c κs within)
    (subst (λ k. IsWorth k (g.V.View.worth_of c.index_mut-q.result.now)) (sym (f.fold-same_kind g.V.View.kind_of g.V.View.worth_of c.args.left.now.items c.args.right.now.items c.args.r c.index_mut-l.result.now c.index_mut-q.result.now c.args.left_used.now.items c.requires.reducer_is c.requires.kinds c.index_mut-l.ensures.value c.index_mut-q.ensures.value c.requires.left_layer c.requires.right_values c.requires.monoids)) (f.fold-right_value g.V.View.kind_of g.V.View.worth_of c.args.left.now.items c.args.right.now.items c.args.r c.index_mut-l.result.now c.index_mut-q.result.now c.args.left_used.now.items c.requires.reducer_is c.requires.kinds c.index_mut-l.ensures.value c.index_mut-q.ensures.value c.requires.left_layer c.requires.right_values c.requires.monoids))

pub returns-clause-left_kinds : goal.returns-clause-left_kinds
returns-clause-left_kinds g c = f.fold-left_kinds g.V.View.kind_of g.V.View.worth_of c.args.left.now.items c.args.right.now.items c.args.r c.index_mut-l.result.now c.index_mut-q.result.now c.args.left_used.now.items c.requires.reducer_is c.requires.kinds c.index_mut-l.ensures.value c.index_mut-q.ensures.value c.requires.left_layer c.requires.right_values c.requires.monoids (result_of c.move_known.result) c.move_known.new.left c.move_known.new.right c.move_known.ensures.left_kind c.move_known.ensures.right_kind (on_done c.move_known.result _ c.move_known.ensures.moved) (on_done c.move_known.result _ c.move_known.ensures.emptied) (on_undone c.move_known.result _ c.move_known.ensures.left_kept) (on_undone c.move_known.result _ c.move_known.ensures.right_kept)

pub returns-clause-right_kinds : goal.returns-clause-right_kinds
returns-clause-right_kinds g c = f.fold-right_kinds g.V.View.kind_of g.V.View.worth_of c.args.left.now.items c.args.right.now.items c.args.r c.index_mut-l.result.now c.index_mut-q.result.now c.args.left_used.now.items c.requires.reducer_is c.requires.kinds c.index_mut-l.ensures.value c.index_mut-q.ensures.value c.requires.left_layer c.requires.right_values c.requires.monoids (result_of c.move_known.result) c.move_known.new.left c.move_known.new.right c.move_known.ensures.left_kind c.move_known.ensures.right_kind (on_done c.move_known.result _ c.move_known.ensures.moved) (on_done c.move_known.result _ c.move_known.ensures.emptied) (on_undone c.move_known.result _ c.move_known.ensures.left_kept) (on_undone c.move_known.result _ c.move_known.ensures.right_kept)

pub returns-clause-product : goal.returns-clause-product
returns-clause-product g c =
    subst (λ (cs : List Kind). operate_all cs (map g.V.View.worth_of (set c.args.left.now.items c.args.r c.move_known.new.left)) (map g.V.View.worth_of (set c.args.right.now.items c.args.r c.move_known.new.right))
    ≡ operate_all (map g.V.View.kind_of c.args.left.now.items) (map g.V.View.worth_of c.args.left.now.items) (map g.V.View.worth_of c.args.right.now.items))
    (returns-clause-left_kinds g c) (f.fold-product g.V.View.kind_of g.V.View.worth_of c.args.left.now.items c.args.right.now.items c.args.r c.index_mut-l.result.now c.index_mut-q.result.now c.args.left_used.now.items c.requires.reducer_is c.requires.kinds c.index_mut-l.ensures.value c.index_mut-q.ensures.value c.requires.left_layer c.requires.right_values c.requires.monoids (result_of c.move_known.result) c.move_known.new.left c.move_known.new.right c.move_known.ensures.left_kind c.move_known.ensures.right_kind (on_done c.move_known.result _ c.move_known.ensures.moved) (on_done c.move_known.result _ c.move_known.ensures.emptied) (on_undone c.move_known.result _ c.move_known.ensures.left_kept) (on_undone c.move_known.result _ c.move_known.ensures.right_kept))

pub returns-clause-moved : goal.returns-clause-moved
returns-clause-moved g c = λ k e d. if_done c.move_known.result _ (f.fold-moved g.V.View.kind_of g.V.View.worth_of c.args.left.now.items c.args.right.now.items c.args.r c.index_mut-l.result.now c.index_mut-q.result.now c.args.left_used.now.items c.requires.reducer_is c.requires.kinds c.index_mut-l.ensures.value c.index_mut-q.ensures.value c.requires.left_layer c.requires.right_values c.requires.monoids (result_of c.move_known.result) c.move_known.new.left c.move_known.new.right c.move_known.ensures.left_kind c.move_known.ensures.right_kind (on_done c.move_known.result _ c.move_known.ensures.moved) (on_done c.move_known.result _ c.move_known.ensures.emptied) (on_undone c.move_known.result _ c.move_known.ensures.left_kept) (on_undone c.move_known.result _ c.move_known.ensures.right_kept) k e) d

pub returns-clause-same : goal.returns-clause-same
returns-clause-same g c = λ d. if_undone c.move_known.result _ (f.fold-kept g.V.View.kind_of g.V.View.worth_of c.args.left.now.items c.args.right.now.items c.args.r c.index_mut-l.result.now c.index_mut-q.result.now c.args.left_used.now.items c.requires.reducer_is c.requires.kinds c.index_mut-l.ensures.value c.index_mut-q.ensures.value c.requires.left_layer c.requires.right_values c.requires.monoids (result_of c.move_known.result) c.move_known.new.left c.move_known.new.right c.move_known.ensures.left_kind c.move_known.ensures.right_kind (on_done c.move_known.result _ c.move_known.ensures.moved) (on_done c.move_known.result _ c.move_known.ensures.emptied) (on_undone c.move_known.result _ c.move_known.ensures.left_kept) (on_undone c.move_known.result _ c.move_known.ensures.right_kept)) d

pub returns-clause-left_layer : goal.returns-clause-left_layer
returns-clause-left_layer g c =
    rw (f.was_ok c.note_use.result (c.note_use.new.used.items ≡ used_also c.args.left_used.now.items c.args.r) (sym (c.is_err.ensures.value) ∙ c.if-is_err.false) c.note_use.ensures.keys)
    (f.fold-left_layer g.V.View.kind_of g.V.View.worth_of c.args.left.now.items c.args.right.now.items c.args.r c.index_mut-l.result.now c.index_mut-q.result.now c.args.left_used.now.items c.requires.reducer_is c.requires.kinds c.index_mut-l.ensures.value c.index_mut-q.ensures.value c.requires.left_layer c.requires.right_values c.requires.monoids (result_of c.move_known.result) c.move_known.new.left c.move_known.new.right c.move_known.ensures.left_kind c.move_known.ensures.right_kind (on_done c.move_known.result _ c.move_known.ensures.moved) (on_done c.move_known.result _ c.move_known.ensures.emptied) (on_undone c.move_known.result _ c.move_known.ensures.left_kept) (on_undone c.move_known.result _ c.move_known.ensures.right_kept))
