use Rattle.std.proofs.Common.{OnErr, Result, Ok, Err, ℕ, ◌≡◌, ◌<◌, ◌+◌, ◌≤◌, sym, ◌∙◌, ap, subst, map, length, arith, set, get_or, List, add-one}
use Rattle.std.proofs.Math.ListN.{length-map}
use Rattle.monoid_laws.specs.Worth.{Worth}
use Rattle.monoid_laws.specs.declared.Kind.{Kind}
use Rattle.monoid_laws.specs.Kinds.{operate, meaning, AreWorths, IsWorth}
use Rattle.monoid_laws.proofs.Rows.{AreWorths-at}
use Rattle.hypermaps.specs.Layer.{Layer, operate_first}
use Rattle.hypermaps.proofs.Layers.{is_at_map}
use Rattle.hypermaps.proofs.Folds.{exists_at}
use Rattle.hypermaps.proofs.Records.{first_step, first_all, AreWorths-length}
use Rattle.hypermaps.proofs.Hypermap.absorb_record.Goals as goal

pub absorb_at-requires-clause-reducer_is : goal.absorb_at-requires-clause-reducer_is
absorb_at-requires-clause-reducer_is g c κs within =
    let e : length (map g.V.View.kind_of c.loop-i.self-inside.views.items) ≡ length c.loop-i.self-inside.views.items = length-map c.loop-i.self-inside.views.items g.V.View.kind_of in
    let k : length (map g.V.View.kind_of c.loop-i.self-inside.views.items) ≡ length c.args.self.now.kinds = ap length c.loop-i.invariant.kinds in
    let m : length (map meaning c.args.values.now) ≡ length c.args.self.now.kinds = AreWorths-length c.args.self.now.kinds (map meaning c.args.values.now) c.requires.of_kinds in
    let n : length (map meaning c.args.values.now) ≡ length c.args.values.now = length-map c.args.values.now meaning in
    let t : c.loop-i.i < length c.args.values.now = c.loop-i-test.true in
    omega arith

pub absorb_at-requires-clause-of_kind : goal.absorb_at-requires-clause-of_kind
absorb_at-requires-clause-of_kind g c κs within = λ k p.
    let t : c.loop-i.i < length c.args.values.now = c.loop-i-test.true in
    let m : length (map meaning c.args.values.now) ≡ length c.args.self.now.kinds = AreWorths-length c.args.self.now.kinds (map meaning c.args.values.now) c.requires.of_kinds in
    let n : length (map meaning c.args.values.now) ≡ length c.args.values.now = length-map c.args.values.now meaning in
    let h : c.loop-i.i < length c.args.self.now.kinds = omega arith in
    let q : k ≡ get_or c.args.self.now.kinds c.loop-i.i k = subst (λ (l : List Kind). k ≡ get_or l c.loop-i.i k) c.loop-i.invariant.kinds p in
    subst (IsWorth k) (sym c.in_ok-copy.ensures)
    (AreWorths-at c.args.self.now.kinds (map meaning c.args.values.now) c.loop-i.i k (meaning c.index-values-i.result) c.requires.of_kinds h q
    (is_at_map meaning c.args.values.now c.loop-i.i c.index-values-i.result t c.index-values-i.is))

pub loop-i-preserved : goal.loop-i-preserved
loop-i-preserved g c =
    let i = c.loop-i.i in
    let cs : List Kind = c.args.self.now.kinds in
    let us : List Worth = c.args.self.now.worths in
    let ys : List Worth = map meaning c.args.values.now in
    let ks : List Kind = map g.V.View.kind_of c.loop-i.self-inside.views.items in
    let ws : List Worth = map g.V.View.worth_of c.loop-i.self-inside.views.items in
    let y : Worth = meaning c.index-values-i.result in
    let a : AreWorths cs us = subst (λ (l : Layer). AreWorths l.kinds l.worths) c.self.view_is c.self.invariant.right in
    let t : c.loop-i.i < length c.args.values.now = c.loop-i-test.true in
    let m : length (map meaning c.args.values.now) ≡ length c.args.self.now.kinds = AreWorths-length cs ys c.requires.of_kinds in
    let n : length (map meaning c.args.values.now) ≡ length c.args.values.now = length-map c.args.values.now meaning in
    let h : c.loop-i.i < length c.args.self.now.kinds = omega arith in
    let l : length (map g.V.View.worth_of c.loop-i.self-inside.views.items) ≡ length (map g.V.View.kind_of c.loop-i.self-inside.views.items) = AreWorths-length ks ws c.loop-i.invariant.layer.right in
    let o : length (map g.V.View.kind_of c.loop-i.self-inside.views.items) ≡ length c.args.self.now.kinds = ap length c.loop-i.invariant.kinds in
    let w : c.loop-i.i < length (map g.V.View.worth_of c.loop-i.self-inside.views.items) = omega arith in
    let k : (x : Kind) × (x ≡ get_or cs i x) = exists_at cs i h in
    let x : (z : Worth) × (z ≡ get_or ws i z) = exists_at ws i w in
    let at : k.0 ≡ get_or ks i k.0 = subst (λ (l : List Kind). k.0 ≡ get_or l i k.0) (sym c.loop-i.invariant.kinds) k.1 in
    let there : x.0 ≡ get_or (operate_first i cs us ys) i x.0 = subst (λ (l : List Worth). x.0 ≡ get_or l i x.0) c.loop-i.invariant.so_far x.1 in
    record {
      kinds = c.in-Ok.ensures.kinds ∙ c.loop-i.invariant.kinds;
      layer = c.in-Ok.ensures.layer;
      so_far = c.in-Ok.ensures.absorbed k.0 x.0 at x.1
          ∙ ap (λ l. set l i (operate k.0 x.0 (meaning c.in_ok-copy.copy))) c.loop-i.invariant.so_far
          ∙ ap (λ z. set (operate_first i cs us ys) i (operate k.0 x.0 z)) c.in_ok-copy.ensures
          ∙ first_step i (i + 1) cs us ys k.0 x.0 y a c.requires.of_kinds h (add-one i) k.1 there
          (is_at_map meaning c.args.values.now i c.index-values-i.result t c.index-values-i.is);
    }

pub returns-clause-absorbed : goal.returns-clause-absorbed
returns-clause-absorbed g c =
    let a : AreWorths c.args.self.now.kinds c.args.self.now.worths = subst (λ (l : Layer). AreWorths l.kinds l.worths) c.self.view_is c.self.invariant.right in
    let m : length (map meaning c.args.values.now) ≡ length c.args.self.now.kinds = AreWorths-length c.args.self.now.kinds (map meaning c.args.values.now) c.requires.of_kinds in
    let n : length (map meaning c.args.values.now) ≡ length c.args.values.now = length-map c.args.values.now meaning in
    let t : length c.args.values.now ≤ c.loop-i.i = c.loop-i-test.false in
    c.loop-i.invariant.so_far ∙ first_all c.loop-i.i c.args.self.now.kinds c.args.self.now.worths (map meaning c.args.values.now) a c.requires.of_kinds (omega arith)

refused_by : {A E P : Type 0} (r : Result A E) → P → OnErr r P
refused_by (Ok a) p = tt
refused_by (Err e) p = p

pub returns-in_err-copy-clause-partly : goal.returns-in_err-copy-clause-partly
returns-in_err-copy-clause-partly g c = refused_by c.from_residual.result (c.loop-i.i, c.loop-i.invariant.so_far)
