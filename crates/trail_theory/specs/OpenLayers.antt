-- The open layers of a strand: each is that of a recorded instance, and begins where the instance's run begins on the trail.
use Rattle.std.specs.Prelude.{◌≡◌, ◌<◌, ◌≤◌, Bool, true, false, List, [], ◌∷◌, ◌++◌}
use Rattle.meaning.specs.Tree.{Name, Tree}
use Rattle.meaning.specs.Tables.{Tables, is_there}
use Rattle.meaning.specs.Outcome.{Log, Accumulators, Place}
use Rattle.meaning.specs.Elision.{depth_limit}
use Rattle.meaning.specs.Records.{Revised, Kept, IsSound, is_current, holds_now}
use Rattle.meaning.specs.Statements.{procedure_of, proc_of}
use Rattle.meaning.specs.Commits.{revision_of}
use Rattle.meaning.specs.Trail.{run, trail_at}
use Rattle.meaning.specs.SmallStep.{Start, Frame, Phase, entering, running, spawning, returning, leaving, broken, Parent, Lookup, look_of, Continuation}
use Rattle.meaning.specs.LayeredStrand.{LayeredStrand}
use Rattle.meaning.specs.Tallies.{Opened, Tally}
use Rattle.trail_theory.specs.Order.{Every}
use Rattle.trail_theory.specs.ReadsAtEnd.{EntersOnly}
use Rattle.trail_theory.specs.TaskFits.{Higher}
use Rattle.trail_theory.specs.MainReads.{IsNotMain}
use Rattle.trail_theory.specs.Counts.{IsCounted}
use Rattle.trail_theory.specs.Right.{stretch, IsRight, IsRecorded}

-- ---- the instances that have a layer, by their names, from the top down

abbrev pub recorded_by : Bool → Place → List Place → List Place
recorded_by true n ns = n ∷ ns
recorded_by false n ns = ns

abbrev pub recorded_under : List Parent → List Place
recorded_under [] = []
recorded_under (p ∷ t) = recorded_by p.frame.recorded p.frame.instance (recorded_under t)

-- an instance has its layer from its entering to its last sync
abbrev pub recorded_top : Frame → Phase → List Place → List Place
recorded_top fr (entering child) ns = ns
recorded_top fr (running todo) ns = recorded_by fr.recorded fr.instance ns
recorded_top fr (spawning d x child todo) ns = recorded_by fr.recorded fr.instance ns
recorded_top fr (returning v) ns = recorded_by fr.recorded fr.instance ns
recorded_top fr (leaving v) ns = ns
recorded_top fr (broken k) ns = recorded_by fr.recorded fr.instance ns

abbrev pub recorded_in : Frame → Phase → List Parent → List Place
recorded_in fr ph t = recorded_top fr ph (recorded_under t)

-- ---- no instance is too deep

abbrev pub IsShallowPhase : Phase → Type 0
IsShallowPhase (entering child) = Unit {0}
IsShallowPhase (running todo) = Unit {0}
IsShallowPhase (spawning d x child todo) = d < depth_limit
IsShallowPhase (returning v) = Unit {0}
IsShallowPhase (leaving v) = Unit {0}
IsShallowPhase (broken k) = Unit {0}

abbrev pub AreShallow : List Parent → Type 0
AreShallow t = Every (λ p. p.frame.left < depth_limit) t

abbrev pub IsShallow : Frame → Phase → List Parent → Type 0
IsShallow fr ph t = (fr.left < depth_limit) × (IsShallowPhase ph × AreShallow t)

abbrev pub IsShallowContinuation : Continuation → Type 0
IsShallowContinuation k = (k.parent.frame.left < depth_limit) × AreShallow k.under

-- the top layer is the instance's
abbrev pub IsTopLayer : List Opened → Place → Type 0
IsTopLayer [] n = ⊥
IsTopLayer (o ∷ os) n = o.instance ≡ n

-- where an instance above the entry has a layer to close, the top one is its
abbrev pub ClosesTop : Start → Frame → Phase → List Opened → Type 0
ClosesTop m fr (returning v) os = fr.recorded ≡ true → Higher m fr.instance → IsTopLayer os fr.instance
ClosesTop m fr (entering child) os = Unit {0}
ClosesTop m fr (running todo) os = Unit {0}
ClosesTop m fr (spawning d x child todo) os = Unit {0}
ClosesTop m fr (leaving v) os = Unit {0}
ClosesTop m fr (broken k) os = Unit {0}

module _ (program : Tree) (tables : Tables) (sight : Accumulators) (lookup : Lookup) where
  -- behind these events the trail has the run of an opened instance
  pub record RunsBehind (x : Log) (o : Opened) : Type 0 where
    pub later : Log
    pub memo : IsRecorded program o.of
    pub deep : o.left < depth_limit
    pub is_trail : x ++ ((run program tables sight o.left (look_of lookup) o.of o.args o.instance).events ++ later)
        ≡ trail_at program tables sight (look_of lookup)

  -- each layer above the bottom one is an opened instance's, and begins where its run does
  abbrev pub OpenFit : Log → List Opened → List Log → Type 0
  OpenFit B [] [] = ⊥
  OpenFit B [] (s ∷ []) = Unit {0}
  OpenFit B [] (s ∷ s' ∷ ss) = ⊥
  OpenFit B (o ∷ os) [] = ⊥
  OpenFit B (o ∷ os) (s ∷ ss) = RunsBehind (B ++ stretch ss) o × OpenFit B os ss

  -- a faulted strand's layers aren't claimed
  abbrev pub OpenAt : Phase → Log → List Opened → List Log → Type 0
  OpenAt (broken k) B os ss = Unit {0}
  OpenAt (entering child) B os ss = OpenFit B os ss
  OpenAt (running todo) B os ss = OpenFit B os ss
  OpenAt (spawning d x child todo) B os ss = OpenFit B os ss
  OpenAt (returning v) B os ss = OpenFit B os ss
  OpenAt (leaving v) B os ss = OpenFit B os ss

-- an instance that a strand entered, and not main
abbrev pub EnteredSince : Start → Opened → Type 0
EnteredSince m o = Higher m o.instance × IsNotMain o.instance

-- a procedure that has a number
abbrev pub HasNumber : Revised → Name → Type 0
HasNumber program f = is_current program.revisions (f, revision_of program.revisions f) ≡ true

-- each number was used before, and each procedure that is there or entered has one
pub record IsNumbered (program : Revised) : Type 0 where
  pub below : (f : Name) → revision_of program.revisions f < program.counter
  pub named : (f : Name) → is_there (procedure_of program.tree f) ≡ true → HasNumber program f
  pub entered : (f : Name) → EntersOnly (HasNumber program) (proc_of program.tree f).body

-- a new record is sound, what it has noted holds now, and it fits at the least depth
pub record IsNewRecord (program : Revised) (tables : Tables) (k : Kept) : Type 0 where
  pub sound : IsSound program k
  pub now : holds_now program tables k ≡ true
  pub low : k.height ≤ depth_limit

-- a right strand whose layers are those of its tally, of instances that it entered, whose new records are sound and hold now, and which has counted its marks
pub record IsTallied (program : Revised) (tables : Tables) (sight : Accumulators) (lookup : Lookup) (s : LayeredStrand) (t : Tally) : Type 0 where
  pub right : IsRight program.tree tables sight lookup s
  pub opens : OpenAt program.tree tables sight lookup s.phase right.before t.opened right.segments
  pub high : Every (EnteredSince s.start) t.opened
  pub shallow : IsShallow s.frame s.phase s.under
  pub counted : IsCounted t (stretch right.segments)
  pub made : Every (IsNewRecord program tables) t.made
