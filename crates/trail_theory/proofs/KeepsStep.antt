-- What one small step keeps.
use Rattle.std.specs.Prelude.{◌-◌, List, [], ◌++◌, length, ◌≡◌}
use Rattle.meaning.specs.Tree.{Tree}
use Rattle.meaning.specs.Tables.{Tables}
use Rattle.meaning.specs.Outcome.{Log, Accumulators}
use Rattle.meaning.specs.Records.{Kept}
use Rattle.meaning.specs.SmallStep.{Start, Frame, Phase, Parent, Step, moved, taken, paused, Lookup}
use Rattle.trail_theory.specs.SerialRest.{Beside}
use Rattle.meaning.specs.Layers.{SameNotes, notes, notes_of}
use Rattle.meaning.specs.Tallies.{executions}
use Rattle.trail_theory.specs.Counts.{reuses}
use Rattle.trail_theory.specs.Order.{Every}
use Rattle.trail_theory.specs.TaskFits.{TaskFits, SyncInside}
use Rattle.trail_theory.specs.Right.{full_rest}
use Rattle.trail_theory.specs.MainReads.{IsNotMain}
use Rattle.trail_theory.proofs.Synced.{SpawnsElsewhere}
use Rattle.meaning.specs.Elision.{depth_limit}

module _ (program : Tree) (tables : Tables) (sight : Accumulators) (lookup : Lookup) where
  pub record KeptBy (B : Log) (m : Start) (was : Log) (evs : Log) (fr : Frame) (ph : Phase) (t : List Parent) : Type 0 where
    pub top : Beside
    pub others : List Beside
    pub task : TaskFits program B m fr ph t top others
    pub goes_on : was ≡ evs ++ full_rest program tables sight lookup fr ph t top others
    pub inside : Every (SyncInside m) evs

  -- what an answered instance keeps: the record has noted its events
  pub record TakenBy (B : Log) (m : Start) (was evs : Log) (k : Kept) (fr : Frame) (ph : Phase) (t : List Parent) : Type 0 where
    pub events : Log
    pub kept : KeptBy B m was (evs ++ events) fr ph t
    pub noted : SameNotes (notes program events) (notes_of k (depth_limit - fr.left))
    pub unexecuted : executions events ≡ []
    pub answered : length (reuses events) ≡ 1
    pub elsewhere : IsNotMain fr.instance → Every SpawnsElsewhere events

  abbrev pub Keeps : Log → Start → Log → Step → Type 0
  Keeps B m was (moved l evs fr ph t) = KeptBy B m was evs fr ph t
  Keeps B m was (taken evs k fr ph t) = TakenBy B m was evs k fr ph t
  Keeps B m was (paused p) = Unit {0}
  -- a record answers only with the run that it stands for
