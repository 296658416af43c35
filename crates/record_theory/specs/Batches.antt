-- Records that are valid for instances with consecutive numbers in one argument.
use Rattle.std.specs.Prelude.{◌≡◌, ℕ, ◌<◌, ◌≤◌, ℤ, pos, ◌+ℤ◌, List, [], ◌∷◌, length, Some, slice_get, slice_set}
use Rattle.meaning.specs.Tables.{Tables}
use Rattle.linked_program.specs.Checked.{PlainChecked}
use Rattle.record_theory.specs.Record.{PlainRecord}
use Rattle.record_theory.specs.Validity.{valid_at}
use Rattle.record_theory.specs.Sums.{IsSumOf}

module _ (program : PlainChecked) (tables : Tables) (depth : ℕ) (records : List PlainRecord) (procedure : ℕ) (arguments : List ℤ) (counted : ℕ) where
  -- the instances of a procedure with these arguments but for the counted one, which goes up from that number
  abbrev pub AreValidFrom : ℤ → List PlainRecord → Type 0
  AreValidFrom v [] = Unit {0}
  AreValidFrom v (r ∷ rs) = (valid_at program.revisions tables depth records procedure (slice_set arguments counted v) ≡ Some r) × AreValidFrom (v +ℤ pos 1) rs

  -- so many instances, at least one and no more than that, and one record that has what theirs have together
  pub record IsBatch (most count : ℕ) (sum : PlainRecord) : Type 0 where
    pub first : ℤ
    pub first_is : slice_get arguments counted ≡ Some first
    pub members : List PlainRecord
    pub count_is : length members ≡ count
    pub some : 0 < count
    pub few : count ≤ most
    pub valid : AreValidFrom first members
    pub sum_is : IsSumOf program.kinds members sum
