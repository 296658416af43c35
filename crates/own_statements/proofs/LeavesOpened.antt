-- Iterations that are recorded at once leave no layer open.
use Rattle.std.proofs.Common.{◌≡◌, ◌∙◌, ℕ, zero, suc, refl, ap}
use Rattle.positions.specs.Layers.{PlainLayer}
use Rattle.positions.specs.Setting.{Setting}
use Rattle.positions.specs.Tallies.{PlainTally}
use Rattle.own_statements.specs.Leaves.{PlainLeaf, AreLeaves, no_leaf, one_behind}

-- no layer is open that wasn't
pub leaves_opened : (setting : Setting) (f : PlainLeaf) (n : ℕ) (l m : PlainLayer) (t u : PlainTally) → AreLeaves setting f l t n m u → u.opened ≡ t.opened
leaves_opened setting f zero l m t u no_leaf = refl
leaves_opened setting f (suc n) l m t u (one_behind i v o w y before leaf) = ap (λ (o : PlainTally). o.opened) leaf.tally ∙ leaves_opened setting f n l v t o before
