use Rattle.std.proofs.Common.{rules, arith, List, ◌⊎◌, ◌≡◌, ◌+◌, ◌<◌, suc, ◌++◌, ◌∷◌, [], All, length, reverse, subst, sym, ◌∙◌, ap}
use Rattle.std.proofs.lemmas.List.{length-append}
use Rattle.monoid_laws.specs.declared.Kind.{Kind}
use Rattle.positions.specs.Layers.{PlainLayer, lowest}
use Rattle.layers.proofs.Lowest.{all_but_last, last_of_all, lowest_popped}
use Rattle.layers.proofs.Homes.{either_kept}
use Rattle.layers.proofs.closing.close_all.Goals as goal

pub loop-next-preserved : goal.loop-next-preserved
loop-next-preserved g c =
    let all : All (λ (m : PlainLayer). m.kinds ≡ c.args.layer.now.kinds) (c.pop.new.self.items ++ c.in-Some.next ∷ []) =
    subst (All (λ (m : PlainLayer). m.kinds ≡ c.args.layer.now.kinds)) c.in-Some.ensures.items c.loop-next.invariant.kinds in
    let same : c.in-Some.next.kinds ≡ c.args.layer.now.kinds = last_of_all (λ (m : PlainLayer). m.kinds ≡ c.args.layer.now.kinds) c.pop.new.self.items c.in-Some.next all in
    let closed : c.close.result ≡ c.args.layer.now.kinds = search rules in
    let kept_or : (k : List Kind) → g.K.KitSource.gives k c.loop-next.kits ⊎ c.close.result ≡ k → g.K.KitSource.gives k c.args.kits.now ⊎ c.args.layer.now.kinds ≡ k =
    λ k h. either_kept (g.K.KitSource.gives k c.loop-next.kits) (g.K.KitSource.gives k c.args.kits.now) c.close.result c.args.layer.now.kinds k closed (c.loop-next.invariant.gives_known k) h in
    let more : length c.loop-next.lower.items ≡ length c.pop.new.self.items + 1 = ap length c.in-Some.ensures.items ∙ length-append c.pop.new.self.items (c.in-Some.next ∷ []) in
    record {
      lowest = ap (λ m. lowest m (reverse c.pop.new.self.items)) c.replace-upper.ensures.after
          ∙ lowest_popped c.loop-next.layer c.in-Some.next c.pop.new.self.items
          ∙ ap (λ xs. lowest c.loop-next.layer (reverse xs)) (sym c.in-Some.ensures.items)
          ∙ c.loop-next.invariant.lowest;
      kinds = all_but_last (λ (m : PlainLayer). m.kinds ≡ c.args.layer.now.kinds) c.pop.new.self.items c.in-Some.next all;
      same = ap (λ (m : PlainLayer). m.kinds) c.replace-upper.ensures.after ∙ same;
      fits = c.send_home.ensures.fitting c.args.layer.now.kinds c.loop-next.invariant.fits;
      fitting = λ k h. c.send_home.ensures.fitting k (c.loop-next.invariant.fitting k h);
      gives_known = λ k h. kept_or k (c.send_home.ensures.gives_known k h);
      home = λ enough.
          let before : length c.loop-next.lower.items + g.K.KitSource.free c.loop-next.kits ≡ length c.args.lower.now.items + g.K.KitSource.free c.args.kits.now = c.loop-next.invariant.home enough in
          let all_kits : g.K.KitSource.total c.loop-next.kits ≡ g.K.KitSource.total c.args.kits.now = c.loop-next.invariant.total in
          let room : g.K.KitSource.free c.loop-next.kits < g.K.KitSource.total c.loop-next.kits = omega arith in
          let one_more : g.K.KitSource.free c.send_home.new.kits ≡ suc (g.K.KitSource.free c.loop-next.kits) = c.send_home.ensures.home room in
          omega arith;
      total = c.send_home.ensures.total ∙ c.loop-next.invariant.total;
    }
