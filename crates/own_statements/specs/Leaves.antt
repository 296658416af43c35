-- Iterations of a loop over a memo procedure that are recorded at once: what they do to the loop's layer.
use Rattle.std.specs.Prelude.{◌≡◌, ℕ, zero, suc, ◌-◌, ◌<◌, ℤ, pos, ◌+ℤ◌, true, [], ◌∷◌, length, Some, None}
use Rattle.meaning.specs.Elision.{depth_limit}
use Rattle.evaluation.specs.Slots.{slots_for}
use Rattle.positions.specs.declared.work.Work.TheVariants.{Block}
use Rattle.positions.specs.Setting.{Setting}
use Rattle.positions.specs.Activations.{PlainActivation, made, first_of}
use Rattle.positions.specs.Layers.{PlainLayer, blank, covered, entering}
use Rattle.positions.specs.Tallies.{PlainOpened, PlainTally, opening, closing}
use Rattle.positions.specs.Advance.{record_for}
use Rattle.own_statements.specs.Paths.{ComesTo}
use Rattle.own_statements.specs.declared.leaf.Leaf.{Leaf}

-- an iteration of a procedure, whose only argument is that number, in an instance of so many slots that has so many levels below it
pub record PlainLeaf : Type 0 where
  pub callee : ℕ
  pub size : ℕ
  pub left : ℕ
  pub number : ℤ

abbrev pub plain_leaf : Leaf → PlainLeaf
plain_leaf f = record { callee = f.callee; size = f.size; left = f.left; number = f.number }

-- what is kept of it while its layer is open. How long its name is has no part in its record
abbrev pub opened_by : PlainLeaf → PlainOpened
opened_by f = record { procedure = f.callee; arguments = f.number ∷ []; left = f.left; depth = 0 }

-- no record answers it, and it does its statements in a layer of its own, which becomes a record and goes onto the loop's layer
pub record IsLeaf (setting : Setting) (f : PlainLeaf) (l : PlainLayer) (t : PlainTally) (m : PlainLayer) (u : PlainTally) : Type 0 where
  pub unknown : record_for setting (depth_limit - f.left) f.callee (f.number ∷ []) ≡ None
  pub child : PlainActivation
  pub own : PlainLayer
  pub value : ℤ
  pub came : ComesTo setting true (made f.callee (slots_for f.size (f.number ∷ [])) (Block (first_of 0)) f.left)
      (entering f.callee (depth_limit - f.left) (blank true setting.kinds (length setting.codes))) (Some value) child own
  pub layer : m ≡ covered l own
  pub tally : u ≡ closing setting.program.revisions own value (opening (opened_by f) t)

-- that iteration so far behind it
abbrev pub leaf_behind : ℕ → PlainLeaf → PlainLeaf
leaf_behind n f = record f { number = f.number +ℤ pos n }

-- no record answers so many iterations from that one on
abbrev pub AreUnknown : Setting → PlainLeaf → ℕ → Type 0
AreUnknown setting f n = (i : ℕ) → i < n → record_for setting (depth_limit - f.left) f.callee ((f.number +ℤ pos i) ∷ []) ≡ None

-- so many iterations from that one on are such leaves, one after another
pub data AreLeaves (setting : Setting) (f : PlainLeaf) (l : PlainLayer) (t : PlainTally) : ℕ → PlainLayer → PlainTally → Type 0 where
  no_leaf : AreLeaves setting f l t zero l t
  one_behind : (n : ℕ) (v : PlainLayer) (u : PlainTally) (w : PlainLayer) (y : PlainTally)
      → AreLeaves setting f l t n v u → IsLeaf setting (leaf_behind n f) v u w y → AreLeaves setting f l t (suc n) w y
