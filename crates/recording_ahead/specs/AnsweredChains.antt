-- Iterations of a loop over a memo procedure of which records answer some, and the others are recorded.
use Rattle.std.specs.Prelude.{◌≡◌, ℕ, ◌-◌, ℤ, pos, ◌+ℤ◌, List, [], ◌∷◌, length, Option, None, Some}
use Rattle.monoid_laws.specs.declared.Kind.{Kind}
use Rattle.meaning.specs.Elision.{depth_limit}
use Rattle.record_theory.specs.Record.{PlainRecord}
use Rattle.positions.specs.Layers.{PlainLayer}
use Rattle.positions.specs.Setting.{Setting}
use Rattle.positions.specs.Strands.{PlainStrand}
use Rattle.positions.specs.Tallies.{PlainTally}
use Rattle.positions.specs.Advance.{record_for}
use Rattle.answered_loops.specs.Answered.{absorbed, answered_more}
use Rattle.own_statements.specs.Leaves.{PlainLeaf, IsLeaf}
use Rattle.running_ahead.specs.Leaves.{IsRefusedLeaf}

-- these records answer instances of a procedure at that depth, whose only arguments are the numbers from that one on
abbrev pub AnswerFrom : Setting → ℕ → ℕ → ℤ → List PlainRecord → Type 0
AnswerFrom setting d procedure v [] = Unit {0}
AnswerFrom setting d procedure v (r ∷ rs) = (record_for setting d procedure (v ∷ []) ≡ Some r) × AnswerFrom setting d procedure (v +ℤ pos 1) rs

-- records answer so many iterations from that one on, and what they have goes onto the loop's layer
pub record AreTaken (setting : Setting) (f : PlainLeaf) (n : ℕ) (l : PlainLayer) (t : PlainTally) (m : PlainLayer) (u : PlainTally) : Type 0 where
  pub members : List PlainRecord
  pub many : length members ≡ n
  pub answer : AnswerFrom setting (depth_limit - f.left) f.callee f.number members
  pub layer : m ≡ absorbed (depth_limit - f.left) members l
  pub tally : u ≡ answered_more n t

-- so many iterations from that one on are over: none, or that one, which is recorded, or some that records answer
pub data ArePassed (setting : Setting) (f : PlainLeaf) (n : ℕ) (l : PlainLayer) (t : PlainTally) (m : PlainLayer) (u : PlainTally) : Type 0 where
  nothing : n ≡ 0 → m ≡ l → u ≡ t → ArePassed setting f n l t m u
  recorded : n ≡ 1 → IsLeaf setting f l t m u → ArePassed setting f n l t m u
  answered : AreTaken setting f n l t m u → ArePassed setting f n l t m u

-- memory was refused when what records have went onto the loop's layer, which has other values
pub record IsRefusedTurn (s t : PlainStrand) : Type 0 where
  pub lower : t.lower ≡ s.lower
  pub kinds : t.layer.kinds ≡ s.layer.kinds
  pub opened : t.tally.opened ≡ s.tally.opened
  pub phase : t.phase ≡ s.phase

-- the layer for those that are recorded is there, and of these kinds
abbrev pub IsOwn : List Kind → Option PlainLayer → Type 0
IsOwn kinds None = ⊥
IsOwn kinds (Some own) = own.kinds ≡ kinds

-- memory was refused: where that layer isn't there any more, when it became a record
abbrev pub IsRefusedBy : Option PlainLayer → PlainStrand → PlainStrand → Type 0
IsRefusedBy None s t = IsRefusedLeaf s t
IsRefusedBy (Some own) s t = IsRefusedTurn s t
