use Rattle.std.proofs.Common.{rules, ◌≡◌, ◌∙◌, ◌++◌, ◌∷◌, [], ℕ, List, reverse, sym, ap}
use Rattle.std.proofs.lemmas.List.{reverse-append}
use Rattle.positions.specs.declared.phase.Phase.TheVariants.{Running}
use Rattle.positions.specs.Activations.{PlainActivation}
use Rattle.own_statements.specs.Paths.{stacked, topped}
use Rattle.running_ahead.specs.Chains.{under}
use Rattle.running_ahead.proofs.children.put_on_top.Goals as goal

pub returns : goal.returns
returns c =
    let a : PlainActivation = c.args.top.now in
    let child : PlainActivation = c.args.spares.now.nest.child in
    let xs : List PlainActivation = c.args.spares.now.nest.above.items in
    let ys : List PlainActivation = c.blank-blank.new.self.nest.above.items in
    let first : c.put_over.new.top ≡ child = search rules in
    let above : xs ≡ ys = search rules in
    let below : reverse c.put_over.new.below.items ≡ a ∷ reverse c.args.below.now.items = ap (λ (zs : List PlainActivation). reverse zs) c.put_over.ensures.below ∙ reverse-append c.args.below.now.items (a ∷ []) in
    record {
      stacked = λ m s e f.
          let t = under (s.path ++ a.children ∷ []) (a ∷ s.below) s in
          let there : stacked c.args.more c.put_over.new.top ys m t ≡ topped Running c.put_all.new.top m (under c.put_all.new.path.items (reverse c.put_all.new.below.items) s) =
          c.put_all.ensures.stacked m t (ap (λ (p : List ℕ). p ++ a.children ∷ []) e ∙ sym c.put_over.ensures.path) (ap (λ (u : List PlainActivation). a ∷ u) f ∙ sym below) in
          ap (λ (zs : List PlainActivation). stacked c.args.more child zs m t) above ∙ ap (λ (x : PlainActivation). stacked c.args.more x ys m t) (sym first) ∙ there;
    }
