-- Records in a row, as they are gathered into blocks.
use Rattle.std.specs.Prelude.{◌≡◌, ℕ, ℤ, true, List, Some, map, slice_get, slice_set}
use Rattle.meaning.specs.Every.{every}
use Rattle.monoid_laws.specs.declared.Kind.{Kind}
use Rattle.record_theory.specs.Record.{PlainRecord, as_made}
use Rattle.gathered_records.specs.Summing.{at_places}
use Rattle.rerun_records.specs.Blocks.{PlainBlock, AreLeaves, BlockFits, is_fresh_at}

-- instances of a procedure whose arguments are these but for the counted one
pub record PlainRow : Type 0 where
  pub procedure : ℕ
  pub arguments : List ℤ
  pub counted : ℕ

-- the row with that number in the counted argument
abbrev pub moved_to : PlainRow → ℤ → PlainRow
moved_to row v = record row { arguments = slice_set row.arguments row.counted v }

-- a record of the row's instance is at that place
pub record IsThere (records : List PlainRecord) (row : PlainRow) (place : ℕ) : Type 0 where
  pub it : PlainRecord
  pub there : slice_get (map as_made records) place ≡ Some it
  pub procedure_is : it.procedure ≡ row.procedure
  pub arguments_are : it.arguments ≡ row.arguments

-- records of the row at these places, with that number and the next ones, and all are fresh
pub record AreInRow (records : List PlainRecord) (row : PlainRow) (first : ℤ) (places : List ℕ) : Type 0 where
  pub leaves : AreLeaves (map as_made records) row.procedure row.arguments row.counted first places (at_places (map as_made records) places)
  pub fresh : every (is_fresh_at records) places ≡ true

-- a block of these kinds, whose first record is that of the row, and which counts the same argument
pub record IsPart (kinds : List Kind) (records : List PlainRecord) (row : PlainRow) (block : PlainBlock) : Type 0 where
  pub fits : BlockFits kinds records block
  pub counts : block.counted ≡ row.counted
  pub first : ℕ
  pub begins : slice_get block.places 0 ≡ Some first
  pub there : IsThere records row first
