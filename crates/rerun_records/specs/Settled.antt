-- Readings of the cells that an edit changed: they tell how many of its readings a record has that has these.
use Rattle.std.specs.Prelude.{◌≡◌, ◌≤◌, ℕ, ℤ, Bool, true, false, List, length}
use Rattle.evaluation.specs.declared.note.Note.{Note}
use Rattle.evaluation.specs.declared.note.Note.TheVariants.{Sum}
use Rattle.record_theory.specs.Counts.{how_many}
use Rattle.record_theory.specs.OneTime.{IsOfOneTime}
use Rattle.record_theory.specs.Same.{same_note, is_read}

-- no sum was read
abbrev pub HasNoSums : List Note → Type 0
HasNoSums reads = (table column : ℕ) (value : ℤ) → is_read reads (Sum table column value) ≡ false

-- what was read there was read here
abbrev pub AreReadIn : List Note → List Note → Type 0
AreReadIn cells reads = (note : Note) → is_read cells note ≡ true → is_read reads note ≡ true

-- what has these readings, of one time, and no sum, has that one, or hasn't
pub record TellsOf (cells : List Note) (note : Note) (there : Bool) : Type 0 where
  pub told : (reads : List Note) → HasNoSums reads → IsOfOneTime reads → AreReadIn cells reads → is_read reads note ≡ there

-- it has so many of those
pub record Settles (cells : List Note) (count : ℕ) (notes : List Note) : Type 0 where
  pub many : (reads : List Note) → HasNoSums reads → IsOfOneTime reads → AreReadIn cells reads → how_many same_note notes reads ≡ count
  pub few : count ≤ length notes
