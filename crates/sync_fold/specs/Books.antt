-- A list of strands with its legal history, what is kept of each strand, and why a fold is refused.
use Rattle.std.specs.Prelude.{◌≡◌, ◌⊎◌, ◌<◌, ℕ, suc, length, Bool, true, false, cond, ◌&&◌, List, [], ◌∷◌, drop, Option, Some, None}
use Rattle.std.specs.Prelude.{Result, OnOk, IfErr, slice_set, slice_index_or}
use Rattle.std.specs.List.{remove}
use Rattle.meaning.specs.Outcome.{Place}
use Rattle.meaning.specs.Strands.{Line, Fold, Finished, is_held, done, waits, stepped, replayed}
use Rattle.positions.specs.Moves.{joined}
use Rattle.positions.specs.Simulation.{place_of}
use Rattle.positions.specs.Strands.{PlainStrand}
use Rattle.right_strands.specs.Laid.{PlainPiece, ends_run}
use Rattle.right_strands.specs.Pairs.{PlainPair, IsStill, is_over, is_waiting, may_pair}
use Rattle.strand_list.specs.declared.laid_state.LaidState.{LaidState}
use Rattle.strand_list.specs.Laying.{state_as}
use Rattle.strand_list.specs.Pages.{position, are_neighbours}
use Rattle.strand_lines.specs.Lines.{has_strand}
use Rattle.strand_list.specs.Chronicled.{PlainChronicle, Took, IsRefusedBy, unless, unless_allowed, laying_refusal}
use Rattle.sync_fold.specs.declared.laid.Laid.{Laid}
use Rattle.sync_fold.specs.declared.laid.Laid.TheVariants.{Nothing, Whole, Half, Paired}
use Rattle.strand_list.specs.declared.error.BookError.{BookError}
use Rattle.strand_list.specs.declared.error.BookError.TheVariants as error

abbrev pub PlainLaid : Type 0
PlainLaid = Laid PlainPiece PlainPair

-- where a strand that is laid down begins
abbrev pub begins_at : PlainPiece → Place
begins_at p = place_of p.strand.start p.strand.path

-- what is kept of the strands stands in the lines' order
pub record PlainBook : Type 0 where
  pub chronicle : PlainChronicle
  pub laid : List PlainLaid

-- ---- what is kept of a strand

-- it fits the line of the strand: while a worker holds it nothing is kept, and a piece is at its place, a pair at that of its left one
abbrev pub FitsLine : Line → PlainLaid → Type 0
FitsLine (p, s) Nothing = is_held s ≡ true
FitsLine (p, s) (Whole q) = (s ≡ state_as q.state) × (begins_at q ≡ p) × (s ≡ Finished → p ≡ [])
FitsLine (p, s) (Half q r) = (s ≡ state_as r) × (place_of q.left.start q.left.path ≡ p)
FitsLine (p, s) (Paired r) = s ≡ state_as r

abbrev pub Fits : List Line → List PlainLaid → Type 0
Fits [] [] = Unit {0}
Fits (l ∷ ls) (d ∷ ds) = FitsLine l d × Fits ls ds
Fits _ _ = ⊥

-- the history is legal and leaves the list, whose strands are kept
pub record IsBook (c : PlainChronicle) (ds : List PlainLaid) : Type 0 where
  pub legal : replayed c.history ≡ Some c.page
  pub fits : Fits c.page.lines ds

-- two neighbours may be one strand, as far as what is kept of them says; while a worker holds one of them it says nothing
abbrev pub may_be_one : PlainLaid → PlainLaid → Bool
may_be_one Nothing e = true
may_be_one (Whole p) Nothing = true
may_be_one (Whole p) (Whole q) = may_pair p q
may_be_one (Half q r) Nothing = true
may_be_one (Half q r) (Paired t) = true
may_be_one (Paired r) Nothing = true
may_be_one _ _ = false

abbrev pub may_touch : List PlainLaid → Bool
may_touch (d ∷ e ∷ ds) = may_be_one d e
may_touch _ = true

-- the list begins with two strands that may be folded
abbrev pub folds_here : List Line → List PlainLaid → Bool
folds_here (x ∷ y ∷ ls) ds = done x.1 && waits y.1 && may_touch ds
folds_here _ ds = false

-- the places of the first two neighbours that may be folded
abbrev pub fold_among : List Line → List PlainLaid → Option (Place × Place)
fold_among (x ∷ y ∷ ls) (d ∷ ds) = cond (folds_here (x ∷ y ∷ ls) (d ∷ ds)) (Some (x.0, y.0)) (fold_among (y ∷ ls) ds)
fold_among _ _ = None

-- these are the places of the line of that number and of the next one
abbrev pub PlacesAt : ℕ → List Line → Option (Place × Place) → Type 0
PlacesAt k ls places = (d : Line) → (suc k < length ls) × (places ≡ Some ((slice_index_or ls k d).0, (slice_index_or ls (suc k) d).0))

abbrev pub first_fold : PlainBook → Option (Place × Place)
first_fold b = fold_among b.chronicle.page.lines b.laid

-- two strands that are kept are this one
abbrev pub AreOne : PlainLaid → PlainLaid → PlainStrand → Type 0
AreOne (Whole p) (Whole q) s = s ≡ joined p.strand q.strand
AreOne (Half q r) e s = s ≡ joined q.left q.right
AreOne _ _ s = ⊥

abbrev pub BeginAsOne : List PlainLaid → PlainStrand → Type 0
BeginAsOne (d ∷ e ∷ ds) s = AreOne d e s
BeginAsOne _ s = ⊥

-- the strand of that place and the next one are this one
abbrev pub BecomeOne : PlainBook → Place → PlainStrand → Type 0
BecomeOne b l s = BeginAsOne (drop (position l b.chronicle.page.lines) b.laid) s

-- the pair that both are
abbrev pub IsPairOf : PlainLaid → PlainLaid → PlainPair → Type 0
IsPairOf (Whole p) (Whole q) pair = pair ≡ record { left = p.strand; right = q.strand }
IsPairOf (Half q r) e pair = pair ≡ q
IsPairOf _ _ pair = ⊥

-- as what the strand was laid down
abbrev pub LiesAs : PlainLaid → LaidState → Type 0
LiesAs Nothing r = ⊥
LiesAs (Whole p) r = r ≡ p.state
LiesAs (Half q s) r = r ≡ s
LiesAs (Paired s) r = r ≡ s

abbrev pub IsWhole : {P Q : Type 0} → Laid P Q → Type 0
IsWhole (Whole p) = Unit {0}
IsWhole _ = ⊥

abbrev pub IsPaired : PlainLaid → Type 0
IsPaired (Paired r) = Unit {0}
IsPaired _ = ⊥

-- two strands that may become one
abbrev pub ArePair : PlainLaid → PlainLaid → Type 0
ArePair (Whole p) (Whole q) = (is_over p.state ≡ true) × (is_waiting q.state ≡ true) × (may_pair p q ≡ true)
ArePair (Half q r) (Paired t) = Unit {0}
ArePair _ _ = ⊥

abbrev pub BeginWithPair : List PlainLaid → Type 0
BeginWithPair (d ∷ e ∷ ds) = ArePair d e
BeginWithPair _ = ⊥

-- a worker holds the strand of that number and the next one as one
abbrev pub folded : ℕ → List PlainLaid → List PlainLaid
folded k ds = remove (slice_set ds k Nothing) (suc k)

-- the strand of that number and the next one are kept as a pair
abbrev pub halved : ℕ → PlainPair → LaidState → LaidState → List PlainLaid → List PlainLaid
halved k q r t ds = slice_set (slice_set ds k (Half q r)) (suc k) (Paired t)

-- the pair is made of these two strands, but for reducers' values that have moved from the right one to the left
abbrev pub IsMadeOf : PlainLaid → PlainLaid → PlainPair → Type 0
IsMadeOf (Whole p) (Whole q) pair = IsStill (record { left = p.strand; right = q.strand }) pair
IsMadeOf (Half q r) e pair = IsStill q pair
IsMadeOf _ _ pair = ⊥

abbrev pub BeginAsPair : List PlainLaid → PlainPair → Type 0
BeginAsPair (d ∷ e ∷ ds) pair = IsMadeOf d e pair
BeginAsPair _ pair = ⊥

abbrev pub BeginAt : List PlainLaid → LaidState → LaidState → Type 0
BeginAt (d ∷ e ∷ ds) over waiting = LiesAs d over × LiesAs e waiting
BeginAt _ over waiting = ⊥

-- the strand of that number and the next one have become a pair
pub record IsHalved (k : ℕ) (ds es : List PlainLaid) : Type 0 where
  pub pair : PlainPair
  pub over : LaidState
  pub waiting : LaidState
  pub lies : BeginAt (drop k ds) over waiting
  pub made : BeginAsPair (drop k ds) pair
  pub are : es ≡ halved k pair over waiting ds

abbrev pub KeepsFrom : ℕ → BookError → List PlainLaid → List PlainLaid → Type 0
KeepsFrom k error.NoMemory ds es = (es ≡ ds) ⊎ IsHalved k ds es
KeepsFrom k e ds es = es ≡ ds

-- where a fold was refused for want of memory, the strand of that place and the next one may have become a pair
abbrev pub KeepsStrands : PlainBook → Place → BookError → PlainBook → Type 0
KeepsStrands b l e c = KeepsFrom (position l b.chronicle.page.lines) e b.laid c.laid

-- one strand is left, and ends the run
abbrev pub ends_alone : List PlainLaid → Bool
ends_alone (Whole p ∷ []) = ends_run p
ends_alone _ = false

abbrev pub is_ended : PlainBook → Bool
is_ended b = ends_alone b.laid

-- ---- why a step is refused

abbrev pub lay_refusal : PlainBook → PlainPiece → Option BookError
lay_refusal b p = laying_refusal b.chronicle.page p.state (begins_at p)

-- neighbours that may be one strand
abbrev pub touch : PlainBook → Place → Place → Bool
touch b l r = are_neighbours l r b.chronicle.page.lines && may_touch (drop (position l b.chronicle.page.lines) b.laid)

abbrev pub fold_refusal : PlainBook → Place → Place → ℕ → Option BookError
fold_refusal b l r w =
    unless (has_strand l b.chronicle.page.lines && has_strand r b.chronicle.page.lines) error.NoStrand
    (unless (touch b l r) error.NotNeighbour (unless_allowed (stepped b.chronicle.page (Fold l r w))))

-- ---- a fold of the first two that may be folded

pub record FoldsFirst {A : Type 0} (b : PlainBook) (w : ℕ) (r : Result A BookError) (c : PlainBook) : Type 0 where
  pub left : Place
  pub right : Place
  pub first : first_fold b ≡ Some (left, right)
  pub refused : IfErr r (IsRefusedBy (fold_refusal b left right w))
  pub taken : OnOk r (Took b.chronicle (Fold left right w) c.chronicle)

-- the first two that may be folded are this strand
pub record FirstBecome (b : PlainBook) (s : PlainStrand) : Type 0 where
  pub left : Place
  pub right : Place
  pub first : first_fold b ≡ Some (left, right)
  pub joined : BecomeOne b left s

-- what is kept of strands after a refused fold of the first two that may be folded
pub record FirstStay (b : PlainBook) (e : BookError) (c : PlainBook) : Type 0 where
  pub left : Place
  pub right : Place
  pub first : first_fold b ≡ Some (left, right)
  pub kept : KeepsStrands b left e c

abbrev pub FoldsAny : {A : Type 0} → PlainBook → ℕ → Option (Result A BookError) → PlainBook → Type 0
FoldsAny b w None c = (first_fold b ≡ None) × (c ≡ b)
FoldsAny b w (Some r) c = FoldsFirst b w r c
