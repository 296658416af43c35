use Rattle.std.proofs.Common.{◌≡◌, ◌<◌, sym, ◌∙◌, ap, length, arith, rules}
use Rattle.std.proofs.lemmas.List.Elements.{AllWithin-more_set}
use Rattle.monoid_laws.specs.Kinds.{identity_of}
use Rattle.view_pool.proofs.Kept.{kinds_written}
use Rattle.view_pool.proofs.kit.reset_all.Goals as goal

pub loop-i-preserved : goal.loop-i-preserved
loop-i-preserved g c =
    let h : c.loop-i.i < length c.loop-i.views.items = omega (arith, c.loop-i.views.ok.0) in
    record {
      kinds = kinds_written g.V.View.kind_of c.loop-i.views.items c.loop-i.i c.index_mut-view.result.now c.reset.new.self h c.index_mut-view.ensures.value c.reset.ensures.same_kind ∙ c.loop-i.invariant.kinds;
      size = search rules;
      done = AllWithin-more_set c.loop-i.views.items c.loop-i.i c.reset.new.self h (λ v. g.V.View.worth_of v ≡ identity_of (g.V.View.kind_of v)) c.loop-i.invariant.done (c.reset.ensures.left ∙ ap identity_of (sym c.reset.ensures.same_kind));
    }
