-- The numbers of records: of each, how many of its different readings the tables don't hold, kept right as rows are changed.
use Rattle.std.specs.Prelude.{◌≡◌, ℕ, nat_eq, nat_le, Bool, ◌&&◌, ◌||◌, List, [], ◌∷◌, map, length}
use Rattle.meaning.specs.Tables.{Tables}
use Rattle.evaluation.specs.declared.note.Note.{Note}
use Rattle.record_theory.specs.Record.{PlainRecord, as_made}
use Rattle.record_theory.specs.Same.{same_note}
use Rattle.record_theory.specs.Commits.{AreSingle}
use Rattle.record_theory.specs.Counts.{how_many, lapsed_count}
use Rattle.record_numbers.specs.Stale.{most_number, number_by}

-- the record's number is right; only of one with more readings than it can count it may be the greatest
abbrev pub is_counted : Tables → PlainRecord → Bool
is_counted tables r = nat_eq r.stale (lapsed_count tables r.reads) || (nat_eq r.stale most_number && nat_le most_number (length r.reads))

-- the number of a record that has read these, where the first readings don't hold any more and the second hold again
abbrev pub number_then : List Note → List Note → ℕ → List Note → ℕ
number_then lost won number reads = number_by number (how_many same_note lost reads) (how_many same_note won reads)

-- the record with its number then
abbrev pub told_by : List Note → List Note → PlainRecord → PlainRecord
told_by lost won r = record r { stale = number_then lost won r.stale r.reads }

-- ---- numbers by the places of their records

-- the record with that number
abbrev pub numbered_by : ℕ → PlainRecord → PlainRecord
numbered_by n r = record r { stale = n }

-- records with their numbers, in order of their places
abbrev pub with_numbers : List ℕ → List PlainRecord → List PlainRecord
with_numbers ns [] = []
with_numbers [] (r ∷ rs) = r ∷ with_numbers [] rs
with_numbers (n ∷ ns) (r ∷ rs) = numbered_by n r ∷ with_numbers ns rs

-- a number for each of the records, no two of which are of one procedure and arguments
pub record HaveNumbers (numbers : List ℕ) (records : List PlainRecord) : Type 0 where
  pub single : AreSingle records
  pub as_made_are : map as_made records ≡ records
  pub places : length numbers ≡ length records

-- the numbers then
abbrev pub numbers_then : List Note → List Note → List ℕ → List PlainRecord → List ℕ
numbers_then lost won [] rs = []
numbers_then lost won ns [] = ns
numbers_then lost won (n ∷ ns) (r ∷ rs) = number_then lost won n r.reads ∷ numbers_then lost won ns rs
