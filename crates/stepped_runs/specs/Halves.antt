-- Two neighbours of which a fold was refused for memory.
use Rattle.std.specs.Prelude.{◌≡◌, true, List, ◌∷◌, ◌++◌}
use Rattle.monoid_laws.specs.declared.Kind.{Kind}
use Rattle.monoid_laws.specs.Worth.{Worth}
use Rattle.monoid_laws.specs.Kinds.{operate_all}
use Rattle.positions.specs.Moves.{FoldsViews}
use Rattle.stepped_runs.specs.Pieces.{PlainPiece, may_fold}
use Rattle.stepped_runs.specs.Runs.{PlainRun}
use Rattle.stepped_runs.specs.Stands.{valued}

-- the product of a left piece's reducers' values and a right one's
abbrev pub product_of : List Kind → PlainPiece → PlainPiece → List Worth
product_of kinds l r = operate_all kinds l.strand.layer.worths r.strand.layer.worths

-- some reducers have moved from the right to the left, and the others have not
pub record IsHalfFolded (l r m n : PlainPiece) : Type 0 where
  pub left : m ≡ valued m.strand.layer.worths l
  pub right : n ≡ valued n.strand.layer.worths r
  pub product : product_of l.strand.layer.kinds m n ≡ product_of l.strand.layer.kinds l r

-- nothing has changed but the values of two neighbours that may become one, whose product is the same
pub record AreHalfFolded (ps qs : List PlainPiece) : Type 0 where
  pub before : List PlainPiece
  pub later : List PlainPiece
  pub left : PlainPiece
  pub right : PlainPiece
  pub new_left : PlainPiece
  pub new_right : PlainPiece
  pub old : ps ≡ before ++ left ∷ right ∷ later
  pub new : qs ≡ before ++ new_left ∷ new_right ∷ later
  pub may : may_fold left right ≡ true
  pub views : FoldsViews left.strand.phase right.strand.phase
  pub half : IsHalfFolded left right new_left new_right

-- a fold was refused for memory
pub record IsHalfFoldedRun (s t : PlainRun) : Type 0 where
  pub pieces : AreHalfFolded s.pieces t.pieces
  pub kits : t.kits ≡ s.kits
  pub history : t.history ≡ s.history
