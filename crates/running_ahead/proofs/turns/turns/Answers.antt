use Rattle.std.proofs.Common.{◌≡◌, ◌∙◌, ◌+◌, ◌<◌, ◌≤◌, ◌∷◌, List, ℕ, suc, sym, ap, subst, rules, add-one}
use Rattle.positions.specs.declared.phase.Phase.TheVariants.{Running}
use Rattle.positions.specs.Activations.{PlainActivation}
use Rattle.activations.specs.Given.{lent}
use Rattle.activations.specs.Turned.{turned_by}
use Rattle.own_statements.specs.Paths.{stacked, topped}
use Rattle.running_ahead.specs.Ahead.{IsAhead}
use Rattle.running_ahead.specs.Chains.{AreTurns, IsWithin}
use Rattle.running_ahead.proofs.ChainedTurns.{chained_turns, chained_stay}
use Rattle.running_ahead.proofs.turns.turns.Goals as goal

pub returns-in-Whole : goal.returns-in-Whole
returns-in-Whole g c =
    let S = lent c.args.setting in
    let a : PlainActivation = c.args.top.now in
    let h = c.args.share in
    let n = c.firsts.result.count in
    let fits : n ≤ h.count = search rules in
    let turned : c.turns.new.self ≡ turned_by n c.args.site h a = c.turns.ensures.turned ∙ ap (λ (z : PlainActivation). turned_by n c.args.site h z) c.chain.ensures.top in
    record {
      came = λ s home. subst (λ (z : PlainActivation). IsAhead S (topped Running a c.args.layer.now s) (topped Running z c.chain.new.layer s)) (sym turned)
          (chained_turns S c.args.site h a c.args.layer.now n c.chain.new.layer (subst (λ (f : ℕ). AreTurns S c.args.site a.procedure a.slots a.left f c.args.layer.now n c.chain.new.layer) c.firsts.ensures.first c.in-Whole.ensures.came) c.requires.there fits s home);
      few = tt;
      long = c.chain.ensures.long;
    }

pub returns-in-Before : goal.returns-in-Before
returns-in-Before g c =
    let S = lent c.args.setting in
    let a : PlainActivation = c.args.top.now in
    let h = c.args.share in
    let n = c.in-Before.done in
    let less : n < c.firsts.result.count = c.in-Before.ensures.fewer in
    let fits : n ≤ h.count = search rules in
    let turned : c.turns-in-Before.new.self ≡ turned_by n c.args.site h a = c.turns-in-Before.ensures.turned ∙ ap (λ (z : PlainActivation). turned_by n c.args.site h z) c.chain.ensures.top in
    record {
      came = λ s home. subst (λ (z : PlainActivation). IsAhead S (topped Running a c.args.layer.now s) (topped Running z c.chain.new.layer s)) (sym turned)
          (chained_turns S c.args.site h a c.args.layer.now n c.chain.new.layer (subst (λ (f : ℕ). AreTurns S c.args.site a.procedure a.slots a.left f c.args.layer.now n c.chain.new.layer) c.firsts.ensures.first c.in-Before.ensures.came) c.requires.there fits s home);
      few = tt;
      long = c.chain.ensures.long;
    }

pub returns-in-Within : goal.returns-in-Within
returns-in-Within g c =
    let S = lent c.args.setting in
    let a : PlainActivation = c.args.top.now in
    let h = c.args.share in
    let n = c.in-Within.done in
    let less : n < c.firsts.result.count = c.in-Within.ensures.fewer.0 in
    let fits : n < h.count = search rules in
    let more = c.in-Within.more in
    let xs : List PlainActivation = c.chain.new.nest.child ∷ c.chain.new.nest.above.items in
    let turned : c.turns-in-Within.new.self ≡ turned_by (suc n) c.args.site h a =
    c.turns-in-Within.ensures.turned ∙ ap (λ (z : PlainActivation). turned_by (n + 1) c.args.site h z) c.chain.ensures.top ∙ ap (λ (k : ℕ). turned_by k c.args.site h a) (add-one n) in
    record {
      came = λ s home. subst (λ (z : PlainActivation). IsAhead S (topped Running a c.args.layer.now s) (stacked (suc more) z xs c.chain.new.layer s)) (sym turned)
          (chained_stay S c.args.site h a c.args.layer.now n more xs c.chain.new.layer (subst (λ (f : ℕ). IsWithin S c.args.site a.procedure a.slots a.left f n more c.args.layer.now xs c.chain.new.layer) c.firsts.ensures.first c.in-Within.ensures.came) c.requires.there fits s home);
      few = c.in-Within.ensures.fewer.1;
      long = c.chain.ensures.long;
    }
