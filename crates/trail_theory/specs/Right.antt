-- When a strand is right: it stands where the serial run stands at its place, and its layers have noted the trail from its beginning on.
use Rattle.std.specs.Prelude.{ℕ, ◌-◌, ◌<◌, ℤ, true, false, List, [], ◌∷◌, ◌++◌, Some, None, Ok, ◌≡◌}
use Rattle.meaning.specs.Tree.{Name, read, step, Tree}
use Rattle.meaning.specs.Tables.{Tables}
use Rattle.meaning.specs.Outcome.{Log, Accumulators, Outcome, Place, Leaves}
use Rattle.meaning.specs.Records.{Kept}
use Rattle.meaning.specs.Statements.{proc_of}
use Rattle.meaning.specs.Trail.{child_of, env_after, doom_after, run, trail_at}
use Rattle.meaning.specs.SmallStep.{waits, Start, root, behind, Frame, blocks, Phase, entering, running, spawning, returning, leaving}
use Rattle.meaning.specs.SmallStep.{broken, Parent, Lookup, look_of, Continuation, place_of_continuation}
use Rattle.trail_theory.specs.SerialRest.{Beside, rest}
use Rattle.meaning.specs.Layers.{SameNotes, Notes, notes, notes_of, multiplied}
use Rattle.meaning.specs.LayeredStrand.{LayeredStrand}
use Rattle.trail_theory.specs.Order.{LeavesBefore, Every}
use Rattle.trail_theory.specs.Waiting.{with_name, IsOrderlyTodo}
use Rattle.trail_theory.specs.ReadsAtEnd.{ReadsAtMainsEnd}
use Rattle.trail_theory.specs.MainReads.{synced_after, SpawnedReads, UnderReads, TaskReads}
use Rattle.trail_theory.specs.TaskFits.{Spot, EnvFits, DoomFits, UnderFits, TaskFits, SyncInside, Stacked}
use Rattle.meaning.specs.Elision.{depth_limit}

-- the stretch B ends where the strand begins; a strand that begins behind a child of main has a spawn of main behind it and no sync
pub record EndsBehind (B : Log) (m : Place) (k : ℕ) : Type 0 where
  pub sooner : Log
  pub value : Outcome
  pub is : B ≡ sooner ++ Leaves (child_of m k) value ∷ []
  pub unsynced : m ≡ [] → synced_after true B ≡ false

abbrev pub StartsAfter : Start → Log → Type 0
StartsAfter root B = B ≡ []
StartsAfter (behind m k) B = EndsBehind B m k

-- ---- layers: each has noted a stretch, the top one last

abbrev pub stretch : List Log → Log
stretch [] = []
stretch (s ∷ ss) = stretch ss ++ s

abbrev pub LayersFit : Tree → List Notes → List Log → Type 0
LayersFit program [] [] = Unit {0}
LayersFit program [] (s ∷ ss) = ⊥
LayersFit program (l ∷ ls) [] = ⊥
LayersFit program (l ∷ ls) (s ∷ ss) = SameNotes l (notes program s) × LayersFit program ls ss

-- a strand has a layer
abbrev pub Layered : List Log → Type 0
Layered [] = ⊥
Layered (s ∷ ss) = Unit {0}

-- at a read of a reducer the strand has what the serial run sees
abbrev pub Sees : Accumulators → Accumulators → Phase → Type 0
Sees acc sight (running (blocks (step s (read x r) b ∷ bs))) = acc ≡ sight
Sees acc sight ph = Unit {0}

-- at a read of a reducer the strand has one layer
abbrev pub IsOneLayer : List Notes → Type 0
IsOneLayer [] = ⊥
IsOneLayer (l ∷ []) = Unit {0}
IsOneLayer (l ∷ m ∷ ls) = ⊥

abbrev pub ReadsByOneLayer : List Notes → Phase → Type 0
ReadsByOneLayer ls (running (blocks (step s (read x r) b ∷ bs))) = IsOneLayer ls
ReadsByOneLayer ls ph = Unit {0}

-- a faulted strand's layers aren't claimed
abbrev pub Logged : Tree → Phase → List Notes → List Log → Type 0
Logged program (broken k) layers segments = Unit {0}
Logged program (entering child) layers segments = LayersFit program layers segments
Logged program (running todo) layers segments = LayersFit program layers segments
Logged program (spawning d x child todo) layers segments = LayersFit program layers segments
Logged program (returning v) layers segments = LayersFit program layers segments
Logged program (leaving v) layers segments = LayersFit program layers segments

abbrev pub IsRecorded : Tree → Name → Type 0
IsRecorded program f = (proc_of program f).memo ≡ true

module _ (program : Tree) (tables : Tables) (sight : Accumulators) (lookup : Lookup) where
  abbrev pub full_rest : Frame → Phase → List Parent → Beside → List Beside → Log
  full_rest fr ph t g gs = (rest program tables sight (look_of lookup) fr ph t g gs).events

  pub record RightAt (start : Start) (layers : List Notes) (fr : Frame) (ph : Phase) (t : List Parent) : Type 0 where
    pub before : Log
    pub segments : List Log
    pub beyond : Log
    pub top : Beside
    pub others : List Beside
    pub is_trail : before ++ (stretch segments ++ (full_rest fr ph t top others ++ beyond)) ≡ trail_at program tables sight (look_of lookup)
    pub starts : StartsAfter start before
    pub layered : Layered segments
    pub logged : Logged program ph layers segments
    pub task : TaskFits program before start fr ph t top others
    pub inside : Every (SyncInside start) (stretch segments)
    pub reads : ReadsAtMainsEnd program → TaskReads (before ++ stretch segments) fr.instance ph t

  -- a right piece, at every point of a strand's life
  abbrev pub IsRight : LayeredStrand → Type 0
  IsRight s = RightAt s.start s.layers s.frame s.phase s.under

  -- a continuation where the serial run stands after the child that it waits for
  pub record IsRightContinuation (k : Continuation) : Type 0 where
    pub before : Log
    pub between : Log
    pub outcome : Outcome
    pub beyond : Log
    pub top : Beside
    pub others : List Beside
    pub is_trail : before ++ (between ++ (Leaves
        (place_of_continuation k) outcome ∷ (full_rest k.parent.frame (running k.parent.todo) k.under
        (record { env = env_after top.env k.parent.into outcome; doom = doom_after top.doom outcome }) others ++ beyond)))
        ≡ trail_at program tables sight (look_of lookup)
    pub starts : StartsAfter k.since before
    pub waiting : List ℕ
    pub orderly : IsOrderlyTodo (with_name k.parent.into waiting) k.parent.todo
    pub slots : EnvFits before k.parent.frame.instance waiting 0 k.parent.frame.env top.env
    pub doomed : DoomFits before k.parent.frame.instance top.doom
    pub under_fits : UnderFits program before k.under others
    pub spot : Spot k.since k.parent.frame.instance k.child
    pub counted : k.child < k.parent.frame.next
    pub stacked : Stacked k.parent.frame.instance k.under
    pub unsynced : k.parent.frame.instance ≡ [] → synced_after true (before ++ (between ++ Leaves (place_of_continuation k) outcome ∷ [])) ≡ false
    pub reads : ReadsAtMainsEnd program → SpawnedReads k.parent.frame.instance k.parent.todo
        × UnderReads (before ++ (between ++ Leaves (place_of_continuation k) outcome ∷ [])) k.under

  -- records of these procedures answer only with the runs that they stand for
  pub record AnswersFor (P : Name → Type 0) : Type 0 where
    pub runs : (f : Name) (vs : List ℤ) (left : ℕ) (n : Place) (k : Kept) → P f → lookup f vs (depth_limit - left) ≡ Some k
        → (run program tables sight left None f vs n).outcome ≡ Ok k.value
    pub notes_are : (f : Name) (vs : List ℤ) (left : ℕ) (n : Place) (k : Kept) → P f → lookup f vs (depth_limit - left) ≡ Some k
        → SameNotes (notes program (run program tables sight left None f vs n).events) (notes_of k (depth_limit - left))

  -- records of any
  abbrev pub LookupIsSound : Type 0
  LookupIsSound = AnswersFor (λ f. Unit {0})

  -- records of those that are recorded: no other is looked up
  abbrev pub RecordedAreSound : Type 0
  RecordedAreSound = AnswersFor (IsRecorded program)

  -- the layers' law: on stretches of the trail the product is the whole's notes
  abbrev pub StretchesMultiply : Type 0
  StretchesMultiply = (x a b y : Log) → x ++ (a ++ (b ++ y)) ≡ trail_at program tables sight (look_of lookup)
      → multiplied program (notes program a) (notes program b) ≡ notes program (a ++ b)

-- the instance of that name leaves after the strand's place
abbrev pub EndsAfter : Start → Place → Type 0
EndsAfter root c = Unit {0}
EndsAfter (behind m k) c = LeavesBefore (child_of m k) c

-- E10: no name waits for a child that ends after that place
abbrev pub NoneWaits : Start → Frame → Type 0
NoneWaits m fr = Every (λ s. (j : ℕ) → s ≡ waits j → EndsAfter m (child_of fr.instance j) → ⊥) fr.env

abbrev pub NoneWaitsUnder : Start → List Parent → Type 0
NoneWaitsUnder m [] = Unit {0}
NoneWaitsUnder m (p ∷ t) = NoneWaits m p.frame × NoneWaitsUnder m t

abbrev pub MayJoin : LayeredStrand → LayeredStrand → Type 0
MayJoin l r = NoneWaits l.start r.frame × NoneWaitsUnder l.start r.under
