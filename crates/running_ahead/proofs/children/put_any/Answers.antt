use Rattle.std.proofs.Common.{rules, ◌≡◌, ◌∙◌, ℕ, List, reverse, ap}
use Rattle.positions.specs.Activations.{PlainActivation}
use Rattle.own_statements.specs.Paths.{stacked}
use Rattle.running_ahead.proofs.Putting.{stacked_under}
use Rattle.running_ahead.proofs.children.put_any.Goals as goal

pub returns-then-more-eq0 : goal.returns-then-more-eq0
returns-then-more-eq0 c =
    let none : c.args.more ≡ 0 = search rules in
    let xs : List PlainActivation = c.args.spares.now.nest.above.items in
    record {
      stacked = λ m s e f.
          ap (λ (k : ℕ). stacked k c.args.top.now xs m s) none ∙ stacked_under 0 c.args.top.now xs m s c.args.path.now.items (reverse c.args.below.now.items) e f;
    }
