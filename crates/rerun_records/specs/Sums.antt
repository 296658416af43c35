-- Records in the place of several that may leave out what these have read, where nobody keeps it.
use Rattle.std.specs.Prelude.{◌≡◌, ℕ, ℤ, Bool, true, List}
use Rattle.meaning.specs.Tables.{Tables}
use Rattle.monoid_laws.specs.declared.Kind.{Kind}
use Rattle.linked_program.specs.Checked.{PlainChecked}
use Rattle.evaluation.specs.declared.note.Note.{Note}
use Rattle.record_theory.specs.Record.{PlainRecord}
use Rattle.record_theory.specs.Sums.{IsSumOf}
use Rattle.record_theory.specs.Batches.{IsBatch}

-- with these readings
abbrev pub with_reads : List Note → PlainRecord → PlainRecord
with_reads ns r = record r { reads = ns }

-- with what these have read a record has what they have together; where readings are kept it has that itself
pub record IsSumFor (keeps : Bool) (kinds : List Kind) (rs : List PlainRecord) (s : PlainRecord) : Type 0 where
  pub reads : List Note
  pub sum_is : IsSumOf kinds rs (with_reads reads s)
  pub has : keeps ≡ true → s.reads ≡ reads

module _ (keeps : Bool) (program : PlainChecked) (tables : Tables) (depth : ℕ) (records : List PlainRecord) where
  -- with what its instances have read a record is a batch of so many; where readings are kept it is one itself
  pub record IsBatchFor (procedure : ℕ) (arguments : List ℤ) (counted most count : ℕ) (sum : PlainRecord) : Type 0 where
    pub reads : List Note
    pub batch : IsBatch program tables depth records procedure arguments counted most count (with_reads reads sum)
    pub has : keeps ≡ true → sum.reads ≡ reads
