-- Edits of cells of a row: how many of the readings that don't hold any more a record had read of which nothing was counted.
use Rattle.std.specs.Prelude.{◌≡◌, ◌≤◌, ℕ, nat_eq, ℤ, Bool, true, List, length}
use Rattle.meaning.specs.Every.{every}
use Rattle.meaning.specs.Tables.{Tables}
use Rattle.evaluation.specs.declared.note.Note.{Note}
use Rattle.instance_records.specs.Full.{HasCells}
use Rattle.record_theory.specs.Counts.{how_many, has_lapsed}
use Rattle.record_theory.specs.Same.{same_note, is_read}
use Rattle.record_theory.specs.Validity.{note_agrees}
use Rattle.rerun_records.specs.Settled.{HasNoSums}

-- the tables hold all of the first readings, and none of the second
pub record AreBefore (tables : Tables) (lost won : List Note) : Type 0 where
  pub all_held : every (note_agrees tables) lost ≡ true
  pub none_held : every (has_lapsed tables) won ≡ true

-- where the number is 0 the tables hold all that was read
abbrev pub IsKnown : Tables → ℕ → List Note → Type 0
IsKnown tables number reads = nat_eq number 0 ≡ true → every (note_agrees tables) reads ≡ true

module _ (change : ℕ × ℤ) (first end : ℕ) where
  -- what holds, has no sum, and has the cells of the changed row of the columns from one up to another, has that one, or hasn't, where it holds too
  pub record TellsOfOne (note : Note) (there : Bool) : Type 0 where
    pub told :
        (tables : Tables) (reads : List Note) → HasNoSums reads → every (note_agrees tables) reads ≡ true → HasCells reads change.0 change.1 first end
        → note_agrees tables note ≡ true → is_read reads note ≡ there

  -- it has so many of those
  pub record IsLine (count : ℕ) (notes : List Note) : Type 0 where
    pub many :
        (tables : Tables) (reads : List Note) → HasNoSums reads → every (note_agrees tables) reads ≡ true → HasCells reads change.0 change.1 first end
        → every (note_agrees tables) notes ≡ true → how_many same_note notes reads ≡ count
    pub few : count ≤ length notes
