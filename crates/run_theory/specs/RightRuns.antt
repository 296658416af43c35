-- When a run on several workers is right: what holds of each piece, and how neighbours touch.
use Rattle.std.specs.Prelude.{◌≡◌, ◌⊎◌, ℕ, suc, Bool, true, false, ℤ, List, [], ◌∷◌, ◌++◌, length}
use Rattle.meaning.specs.Tree.{Tree}
use Rattle.meaning.specs.Tables.{Tables}
use Rattle.meaning.specs.Outcome.{Accumulators, Fault, Place}
use Rattle.meaning.specs.SmallStep.{Start, root, behind, is_entry, Frame, Phase, entering, running, spawning, returning, leaving, broken}
use Rattle.meaning.specs.SmallStep.{Parent, Lookup, Continuation, place_of_continuation}
use Rattle.meaning.specs.LayeredStrand.{LayeredStrand}
use Rattle.meaning.specs.RestOfRun.{lowest}
use Rattle.meaning.specs.Strands.{State, Held, Ended, Stalled}
use Rattle.meaning.specs.Strands as strands
use Rattle.meaning.specs.Schedules.{Piece, RunState, place_of}
use Rattle.trail_theory.specs.Order.{Every}
use Rattle.trail_theory.specs.Right.{IsRight, IsRightContinuation}
use Rattle.strand_theory.specs.Faults.{BrokenAt}

-- ---- neighbours

-- the place where the first of some pieces begins: main's where there is none
abbrev pub front : List Piece → Place
front [] = []
front (p ∷ ps) = place_of p

-- only the first piece begins at the trail's beginning
abbrev pub Begins : Bool → Start → Type 0
Begins true root = Unit {0}
Begins true (behind m k) = ⊥
Begins false root = ⊥
Begins false (behind m k) = Unit {0}

-- from an instance down a deque to a place: each continuation waits for the instance at the bottom of what is above it
abbrev pub Links : Place → List Continuation → Place → Type 0
Links n [] e = n ≡ e
Links n (k ∷ ks) e = (n ≡ place_of_continuation k) × Links (lowest k.parent.frame k.under) ks e

-- ---- which instances have a layer, the topmost one first

abbrev pub under_flags : List Parent → List Bool
under_flags [] = []
under_flags (p ∷ t) = p.frame.recorded ∷ under_flags t

abbrev pub flags_of : Frame → List Parent → List Bool
flags_of fr t = fr.recorded ∷ under_flags t

abbrev pub deque_flags : List Continuation → List Bool
deque_flags [] = []
deque_flags (k ∷ ks) = flags_of k.parent.frame k.under ++ deque_flags ks

abbrev pub piece_flags : Piece → List Bool
piece_flags p = flags_of p.strand.frame p.strand.under ++ deque_flags p.deque

abbrev pub count : List Bool → ℕ
count [] = 0
count (true ∷ bs) = suc (count bs)
count (false ∷ bs) = count bs

-- an instance that has returned has no layer
abbrev pub LayerIsClosed : Phase → Bool → Type 0
LayerIsClosed (leaving v) b = b ≡ false
LayerIsClosed (entering child) b = Unit {0}
LayerIsClosed (running todo) b = Unit {0}
LayerIsClosed (spawning d x child todo) b = Unit {0}
LayerIsClosed (returning v) b = Unit {0}
LayerIsClosed (broken k) b = Unit {0}

-- ---- as what a strand was laid down

pub record IsOver (s : LayeredStrand) (ks : List Continuation) : Type 0 where
  pub value : ℤ
  pub phase : s.phase ≡ leaving value
  pub under : s.under ≡ []
  pub deque : ks ≡ []

pub record IsStalled (s : LayeredStrand) (ks : List Continuation) : Type 0 where
  pub one_layer : length s.layers ≡ 1
  pub entry : is_entry s.start s.frame.instance ≡ true
  pub deque : ks ≡ []

pub record IsFaulted (s : LayeredStrand) (ks : List Continuation) : Type 0 where
  pub fault : Fault
  pub phase : s.phase ≡ broken fault
  pub one_layer : length s.layers ≡ 1
  pub deque : ks ≡ []

pub record IsFinished (s : LayeredStrand) (ks : List Continuation) : Type 0 where
  pub under : s.under ≡ []
  pub main : s.frame.instance ≡ []
  pub deque : ks ≡ []

abbrev pub IsLaid : State → LayeredStrand → List Continuation → Type 0
IsLaid (Held w) s ks = Unit {0}
IsLaid Ended s ks = IsOver s ks
IsLaid Stalled s ks = IsStalled s ks
IsLaid strands.Faulted s ks = IsFaulted s ks
IsLaid strands.Finished s ks = IsFinished s ks

module _ (program : Tree) (tables : Tables) (sight : Accumulators) (lookup : Lookup) where
  -- a piece that goes on to the next one's place. Its layers but the bottom one are those of the instances that it entered: the
  -- flags of its instances, and of those behind it, end with the ones that were there as it began
  pub record IsWhole (p : Piece) (found later : List Bool) (e : Place) : Type 0 where
    pub right : IsRight program tables sight lookup p.strand
    pub links : Links (lowest p.strand.frame p.strand.under) p.deque e
    pub own : List Bool
    pub flags : piece_flags p ++ later ≡ own ++ found
    pub layers : length p.strand.layers ≡ suc (count own)
    pub closed : LayerIsClosed p.strand.phase p.strand.frame.recorded

  -- a strand with a fault that has given up its deque: nothing is claimed of its instances
  pub record IsCut (p : Piece) : Type 0 where
    pub fault : Fault
    pub phase : p.strand.phase ≡ broken fault
    pub first : BrokenAt program tables sight lookup p.strand.start fault
    pub deque : p.deque ≡ []
    pub upper : ℕ
    pub layers : length p.strand.layers ≡ suc upper

  -- a continuation that was pushed since the strand began
  abbrev pub IsPushed : Start → Continuation → Type 0
  IsPushed m k = (k.since ≡ m) × IsRightContinuation program tables sight lookup k

  pub record IsPiece (first : Bool) (p : Piece) (found later : List Bool) (e : Place) : Type 0 where
    pub begins : Begins first p.strand.start
    pub as_long : length found ≡ length (place_of p)
    pub fits : IsWhole p found later e ⊎ IsCut p
    pub deque : Every (IsPushed p.strand.start) p.deque
    pub laid : IsLaid p.state p.strand p.deque

  -- neighbours touch, and the last piece ends with main
  abbrev pub PiecesFit : Bool → List Piece → List Bool → Type 0
  PiecesFit first [] found = found ≡ []
  PiecesFit first (p ∷ ps) found = (later : List Bool) × IsPiece first p found later (front ps) × PiecesFit false ps later

  abbrev pub IsRightRun : RunState → Type 0
  IsRightRun s = PiecesFit true s.pieces []
