-- Rows of which the cells of some columns were read.
use Rattle.std.specs.Prelude.{◌≡◌, ◌≤◌, ◌<◌, ℕ, nat_eq, ℤ, pos, Bool, true, false, ◌&&◌, List, Option, Some, None, Box}
use Rattle.std.specs.declared.alloc.Global.{Global}
use Rattle.std.specs.Arc.{arc_value}
use Rattle.std.specs.List.{list_any}
use Rattle.std.specs.Ordering.{int_eq}
use Rattle.evaluation.specs.declared.note.Note.{Note}
use Rattle.evaluation.specs.declared.note.Note.TheVariants as n
use Rattle.instance_records.specs.declared.full.Full.{Full}
use Rattle.instance_records.specs.declared.lines.Lines.{Lines}
use Rattle.instance_records.specs.declared.readings.Node.{Node, out-Node}
use Rattle.instance_records.specs.declared.readings.Below.{Below, out-Below}
use Rattle.instance_records.specs.declared.readings.Held.{Held}
use Rattle.instance_records.specs.declared.readings.Held.TheVariants.{Nothing, One, Two, Shared}
use Rattle.instance_records.specs.Readings.{below_told}

-- it is of that cell, with one value or another
abbrev pub is_of_cell : ℕ → ℤ → ℕ → Note → Bool
is_of_cell t row c (n.Cell u s d v) = nat_eq t u && (int_eq row s && nat_eq c d)
is_of_cell t row c (n.Has u s there) = false
is_of_cell t row c (n.Limit u v) = false
is_of_cell t row c (n.Sum u d v) = false

-- the cell was read
abbrev pub has_cell : List Note → ℕ → ℤ → ℕ → Bool
has_cell notes t row c = list_any (is_of_cell t row c) notes

-- so were those of the row's columns from one up to another
abbrev pub HasCells : List Note → ℕ → ℤ → ℕ → ℕ → Type 0
HasCells notes t row first end = (c : ℕ) → first ≤ c → c < end → has_cell notes t row c ≡ true

-- so it is of each of the rows
abbrev pub IsFull : List Note → Full → Type 0
IsFull notes f = (row : ℕ) → f.low ≤ row → row < f.until → HasCells notes f.table (pos row) f.first f.end

-- of the row behind these so many columns were read, or nothing is known of it
pub record AreLines (notes : List Note) (l : Lines) : Type 0 where
  pub full : IsFull notes l.full
  pub few : l.full.end ≤ 256
  pub next : l.next ≤ 256 → HasCells notes l.full.table (pos l.full.until) l.full.first l.next

-- the rows noted of what is below a node are so
abbrev pub IsFullBelow : Option (Box Below Global) → Type 0
IsFullBelow None = Unit {0}
IsFullBelow (Some b) = IsFull (below_told b.value).0 (out-Below b.value).full

abbrev pub IsFullNode : Node → Type 0
IsFullNode n = IsFullBelow (out-Node n).below

abbrev pub IsFullIn : Held → Type 0
IsFullIn Nothing = Unit {0}
IsFullIn (One reading) = Unit {0}
IsFullIn (Two pair) = Unit {0}
IsFullIn (Shared node) = IsFullNode (arc_value node)
