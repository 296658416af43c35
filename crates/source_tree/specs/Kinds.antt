-- The kinds of reducers as they are written.
use Rattle.std.specs.Prelude.{ℕ, List, take, ◌*◌}
use Rattle.monoid_laws.specs.declared.Kind.{Kind}
use Rattle.monoid_laws.specs.declared.Kind.TheVariants as k

-- A table has its size, its unit and its numbers row by row.
pub data WrittenKind : Type 0 where
  Add : WrittenKind
  Mul : WrittenKind
  Min : WrittenKind
  Max : WrittenKind
  And : WrittenKind
  Or : WrittenKind
  Xor : WrittenKind
  Items : WrittenKind
  First : ℕ → WrittenKind
  Last : ℕ → WrittenKind
  Argmax : WrittenKind
  Affine : WrittenKind
  Hist : WrittenKind
  Table : ℕ → ℕ → List ℕ → WrittenKind

-- as a kind is written; of a table's cells those that its size gives it, since the others are 0
abbrev pub written : Kind → WrittenKind
written k.Add = Add
written k.Mul = Mul
written k.Min = Min
written k.Max = Max
written k.And = And
written k.Or = Or
written k.Xor = Xor
written k.List = Items
written (k.First n) = First n
written (k.Last n) = Last n
written k.Argmax = Argmax
written k.Affine = Affine
written k.Hist = Hist
written (k.Table t) = Table t.size t.unit (take (t.size * t.size) t.cells)
