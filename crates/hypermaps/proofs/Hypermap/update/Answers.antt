use Rattle.std.proofs.Common.{inr, ◌≡◌, ◌<◌, sym, ◌∙◌, ap, subst, map, length, arith, set, get_or}
use Rattle.std.proofs.Math.ListN.{length-map}
use Rattle.std.proofs.lemmas.List.{map-set}
use Rattle.monoid_laws.specs.Kinds.{operate, element_of, names_element, refusal, IsWorth}
use Rattle.hypermaps.specs.Layer.{used_also}
use Rattle.std.specs.Prelude.{nat_eq}
use Rattle.hypermaps.specs.Layer.{Layer}
use Rattle.hypermaps.proofs.Layers.{IsLayer-written, IsWorth-old, IsWorth-combined, kinds_written, worths_kept, OnErr-kept, OnOk-kept, IfErr-kept, at_map, was_ok}
use Rattle.hypermaps.proofs.Hypermap.update.Goals as goal
use Rattle.hypermaps.proofs.Hypermap.update.Goals.{After-self-1}
use Rattle.hypermaps.proofs.Hypermap.update.Given.{Over}

-- the reducer is within the views
within : (g : Over) (c : After-self-1 g) → c.args.reducer < length c.self.inside.views.items
within g c =
    let e : length (map g.V.View.kind_of c.self.inside.views.items) ≡ length c.args.self.now.kinds = ap (λ l. length l.kinds) c.self.view_is in
    let f : length (map g.V.View.kind_of c.self.inside.views.items) ≡ length c.self.inside.views.items = length-map c.self.inside.views.items g.V.View.kind_of in
    let r : c.args.reducer < length c.args.self.now.kinds = c.requires.reducer_is in
    omega arith

pub invariant_of-self-2 : goal.invariant_of-self-2
invariant_of-self-2 g c =
    let h : c.args.reducer < length c.self.inside.views.items = within g c in
    let old = c.index_mut-view.result.now in
    let new = c.update.new.self in
    let right : IsWorth (g.V.View.kind_of c.index_mut-view.result.now) (g.V.View.worth_of c.update.new.self) =
    IsWorth-combined c.update.result _ _ _ _ c.update.ensures.done c.update.ensures.element c.update.ensures.refused
    (IsWorth-old g.V.View.kind_of g.V.View.worth_of c.self.inside.views.items c.args.reducer old new h c.index_mut-view.ensures.value c.update.ensures.same_kind c.self.inside.used.items c.self.invariant) in
    rw (was_ok c.note_use.result (c.note_use.new.used.items ≡ used_also c.self.inside.used.items c.args.reducer) (sym (c.is_err.ensures.value) ∙ c.if-is_err.false) c.note_use.ensures.keys)
    (IsLayer-written g.V.View.kind_of g.V.View.worth_of c.self.inside.views.items c.args.reducer old new h c.index_mut-view.ensures.value c.update.ensures.same_kind c.self.inside.used.items c.self.invariant right)

pub returns-clause-kinds : goal.returns-clause-kinds
returns-clause-kinds g c =
    kinds_written g.V.View.kind_of g.V.View.worth_of c.self.inside.views.items c.args.reducer c.index_mut-view.result.now c.update.new.self (within g c) c.index_mut-view.ensures.value c.update.ensures.same_kind
    ∙ ap (λ l. l.kinds) c.self.view_is

pub returns-clause-done : goal.returns-clause-done
returns-clause-done g c = λ k x p q.
    let h : c.args.reducer < length c.self.inside.views.items = within g c in
    let v : c.index_mut-view.result.now ≡ get_or c.self.inside.views.items c.args.reducer c.index_mut-view.result.now = c.index_mut-view.ensures.value in
    let ek : k ≡ g.V.View.kind_of c.index_mut-view.result.now = at_map g.V.View.kind_of c.self.inside.views.items c.args.reducer c.index_mut-view.result.now k h v (subst (λ (l : Layer). k ≡ get_or l.kinds c.args.reducer k) (sym c.self.view_is) p) in
    let ex : x ≡ g.V.View.worth_of c.index_mut-view.result.now = at_map g.V.View.worth_of c.self.inside.views.items c.args.reducer c.index_mut-view.result.now x h v (subst (λ (l : Layer). x ≡ get_or l.worths c.args.reducer x) (sym c.self.view_is) q) in
    OnOk-kept c.update.result _ _ (λ d.
    map-set g.V.View.worth_of c.self.inside.views.items c.args.reducer c.update.new.self
    ∙ ap (λ ws. set ws c.args.reducer (g.V.View.worth_of c.update.new.self)) (ap (λ l. l.worths) c.self.view_is)
    ∙ ap (λ w. set c.args.self.now.worths c.args.reducer w) (d ∙ sym (ap (λ j. operate j x (element_of j c.args.numbers.now)) ek ∙ ap (λ w. operate (g.V.View.kind_of c.index_mut-view.result.now) w (element_of (g.V.View.kind_of c.index_mut-view.result.now) c.args.numbers.now)) ex)))
    c.update.ensures.done

pub returns-clause-refused : goal.returns-clause-refused
returns-clause-refused g c =
    OnErr-kept c.update.result _ _ (λ d.
    worths_kept g.V.View.kind_of g.V.View.worth_of c.self.inside.views.items c.args.reducer c.index_mut-view.result.now c.update.new.self (within g c) c.index_mut-view.ensures.value c.update.ensures.same_kind d
    ∙ ap (λ l. l.worths) c.self.view_is)
    c.update.ensures.refused

pub returns-clause-named : goal.returns-clause-named
returns-clause-named g c = λ k p.
    let ek : k ≡ g.V.View.kind_of c.index_mut-view.result.now = at_map g.V.View.kind_of c.self.inside.views.items c.args.reducer c.index_mut-view.result.now k (within g c) c.index_mut-view.ensures.value
    (subst (λ (l : Layer). k ≡ get_or l.kinds c.args.reducer k) (sym c.self.view_is) p) in
    OnOk-kept c.update.result _ _ (λ d. ap (λ j. names_element j c.args.numbers.now) ek ∙ d) c.update.ensures.named

pub returns-clause-cause : goal.returns-clause-cause
returns-clause-cause g c = λ k p.
    let ek : k ≡ g.V.View.kind_of c.index_mut-view.result.now = at_map g.V.View.kind_of c.self.inside.views.items c.args.reducer c.index_mut-view.result.now k (within g c) c.index_mut-view.ensures.value
    (subst (λ (l : Layer). k ≡ get_or l.kinds c.args.reducer k) (sym c.self.view_is) p) in
    IfErr-kept c.update.result _ _ (λ e d. inr (d ∙ ap (λ j. refusal j c.args.numbers.now) (sym ek))) c.update.ensures.cause
