use Rattle.std.proofs.Common.{◌≡◌, sym, ◌∙◌, ap, map, set}
use Rattle.std.proofs.lemmas.List.{map-set}
use Rattle.monoid_laws.specs.Kinds.{operate, meaning, IsWorth}
use Rattle.hypermaps.specs.Layer.{used_also}
use Rattle.view_pool.proofs.Kept.{IsWorth-at_once}
use Rattle.hypermaps.proofs.Layers.{IsLayer-written, IsWorth-old, kinds_written, worths_kept, at_map, is_at_map, was_ok}
use Rattle.hypermaps.proofs.absorb_at_once.Goals as goal

pub returns-clause-kinds : goal.returns-clause-kinds
returns-clause-kinds g c =
    kinds_written g.V.View.kind_of g.V.View.worth_of c.args.views.now.items c.args.r c.index_mut-view.result.now c.absorb_at_once.new.self c.requires.reducer_is c.index_mut-view.ensures.value c.absorb_at_once.ensures.same_kind

pub returns-clause-layer : goal.returns-clause-layer
returns-clause-layer g c =
    let kind = g.V.View.kind_of in
    let worth = g.V.View.worth_of in
    let old = c.index_mut-view.result.now in
    let new = c.absorb_at_once.new.self in
    let given : IsWorth (g.V.View.kind_of c.index_mut-view.result.now) (meaning c.args.value.now) =
    c.requires.of_kind (kind old) (is_at_map kind c.args.views.now.items c.args.r old c.requires.reducer_is c.index_mut-view.ensures.value) in
    let right : IsWorth (g.V.View.kind_of c.index_mut-view.result.now) (g.V.View.worth_of c.absorb_at_once.new.self) =
    IsWorth-at_once c.absorb_at_once.result _ _ _ _ c.absorb_at_once.ensures.done c.absorb_at_once.ensures.same given
    (IsWorth-old kind worth c.args.views.now.items c.args.r old new c.requires.reducer_is c.index_mut-view.ensures.value c.absorb_at_once.ensures.same_kind c.args.used.now.items c.requires.layer) in
    rw (was_ok c.note_use.result (c.note_use.new.used.items ≡ used_also c.args.used.now.items c.args.r) (sym (c.is_err.ensures.value) ∙ c.if-is_err.false) c.note_use.ensures.keys)
    (IsLayer-written kind worth c.args.views.now.items c.args.r old new c.requires.reducer_is c.index_mut-view.ensures.value c.absorb_at_once.ensures.same_kind c.args.used.now.items c.requires.layer right)

pub returns-clause-absorbed : goal.returns-clause-absorbed
returns-clause-absorbed g c = λ k x p q d.
    let kind = g.V.View.kind_of in
    let worth = g.V.View.worth_of in
    let xs = c.args.views.now.items in
    let old = c.index_mut-view.result.now in
    let ek : k ≡ g.V.View.kind_of c.index_mut-view.result.now = at_map kind xs c.args.r old k c.requires.reducer_is c.index_mut-view.ensures.value p in
    let ex : x ≡ g.V.View.worth_of c.index_mut-view.result.now = at_map worth xs c.args.r old x c.requires.reducer_is c.index_mut-view.ensures.value q in
    map-set worth xs c.args.r c.absorb_at_once.new.self
    ∙ ap (λ w. set (map worth xs) c.args.r w) (c.absorb_at_once.ensures.done d ∙ sym (ap (λ j. operate j x (meaning c.args.value.now)) ek ∙ ap (λ w. operate (kind old) w (meaning c.args.value.now)) ex))

pub returns-clause-same : goal.returns-clause-same
returns-clause-same g c = λ d.
    worths_kept g.V.View.kind_of g.V.View.worth_of c.args.views.now.items c.args.r c.index_mut-view.result.now c.absorb_at_once.new.self c.requires.reducer_is c.index_mut-view.ensures.value c.absorb_at_once.ensures.same_kind (c.absorb_at_once.ensures.same d)
