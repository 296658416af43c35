-- What a record keeps of a layer, before it is known which instance's record it is.
use Rattle.std.specs.Prelude.{ℕ, suc, ◌-◌, ℤ, List, [], ◌∷◌, Option, Some, None, slice_get}
use Rattle.meaning.specs.Tree.{Name}
use Rattle.monoid_laws.specs.Worth.{Worth}
use Rattle.meaning.specs.Elision.{depth_limit}
use Rattle.evaluation.specs.declared.note.Note.{Note}
use Rattle.record_theory.specs.Record.{PlainRecord}
use Rattle.positions.specs.Layers.{PlainLayer, kept_reads}
use Rattle.positions.specs.Tallies.{PlainOpened, touched_from, entries_from}

-- the values of the reducers that were touched, each reading once, the procedures entered, and how many instances were nested at most, main counted
pub record PlainRecording : Type 0 where
  pub contribution : List (ℕ × Worth)
  pub reads : List Note
  pub entered : List (ℕ × ℕ)
  pub levels : ℕ

abbrev pub recording_of : List (Name × ℕ) → PlainLayer → PlainRecording
recording_of revisions l = record {
  contribution = touched_from 0 l.kinds l.worths;
  reads = kept_reads l;
  entered = entries_from 0 revisions l.entered;
  levels = suc l.deepest;
}

-- the record of an instance that is over with that value
abbrev pub recorded : PlainRecording → PlainOpened → ℤ → PlainRecord
recorded r o v = record {
  procedure = o.procedure;
  arguments = o.arguments;
  value = v;
  contribution = r.contribution;
  reads = r.reads;
  entered = r.entered;
  height = r.levels - (depth_limit - o.left);
  stale = 0;
}

-- a procedure's number with its revision number, where there is such a procedure
abbrev pub entry_of : ℕ → Option (Name × ℕ) → List (ℕ × ℕ)
entry_of i None = []
entry_of i (Some e) = (i, e.1) ∷ []

-- the entry of the procedure that was found to be the only one
abbrev pub found_entry : List (Name × ℕ) → Option ℕ → List (ℕ × ℕ)
found_entry es None = []
found_entry es (Some i) = entry_of i (slice_get es i)
