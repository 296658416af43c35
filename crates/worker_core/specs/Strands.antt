-- The strands of a run with the pool and the history, as plain values.
use Rattle.std.specs.Prelude.{◌≡◌, ℕ, suc, ◌+◌, ◌<◌, true, cond, List, [], ◌∷◌, length, take, drop, slice_index_or, slice_set, ◌++◌, All}
use Rattle.std.specs.Prelude.{Option, Some, None, Ok}
use Rattle.monoid_laws.specs.declared.Kind.{Kind}
use Rattle.meaning.specs.Outcome.{Place}
use Rattle.meaning.specs.SmallStep.{same_name}
use Rattle.meaning.specs.Strands.{BookStep}
use Rattle.linked_program.specs.declared.code.Code.{Code}
use Rattle.positions.specs.Setting.{Setting}
use Rattle.positions.specs.Strands.{PlainStrand}
use Rattle.positions.specs.Advance.{pause_of}
use Rattle.positions.specs.Moves.{lowest_alone}
use Rattle.numbered_runs.specs.Named.{named_state}
use Rattle.numbered_runs.specs.declared.step.State.{State}
use Rattle.numbered_runs.specs.declared.step.State.TheVariants as state
use Rattle.numbered_runs.specs.declared.refusal.Refusal.{Refusal}
use Rattle.numbered_runs.specs.declared.refusal.Refusal.TheVariants.{NotThere, NoMemory}
use Rattle.stepped_runs.specs.Pieces.{PlainPiece, place_of, is_held_by, stolen_of}
use Rattle.stepped_runs.specs.Runs.{PlainRun, among}
use Rattle.worker_core.specs.Moves.{IsFit, has_tasks, laid_at, laying_noted}

-- the pieces in serial order, the free kits by their kinds, how many kits there are in all, and the history
pub record PlainStrands : Type 0 where
  pub pieces : List PlainPiece
  pub kits : List (List Kind)
  pub total : ℕ
  pub history : List BookStep

-- of the kits only the number counts
abbrev pub run_of : PlainStrands → PlainRun
run_of s = record { pieces = s.pieces; kits = length s.kits; history = s.history }

-- how many layers a strand has, each of which has a kit
abbrev pub layers_of : PlainPiece → ℕ
layers_of p = suc (length p.strand.lower)

abbrev pub layers_in : List PlainPiece → ℕ
layers_in [] = 0
layers_in (p ∷ ps) = layers_of p + layers_in ps

-- the kits that are free and those of the strands' layers
abbrev pub kits_in : PlainStrands → ℕ
kits_in s = length s.kits + layers_in s.pieces

-- all kits are of those kinds, the free ones and those of the strands
pub record AreFit (kinds : List Kind) (s : PlainStrands) : Type 0 where
  pub pieces : All (IsFit kinds) s.pieces
  pub kits : All (λ k. k ≡ kinds) s.kits

-- the number of the strand that a worker holds, of those from a number on
abbrev pub held_from : ℕ → ℕ → List PlainPiece → Option ℕ
held_from w i [] = None
held_from w i (p ∷ ps) = cond (is_held_by w p) (Some i) (held_from w (suc i) ps)

-- the number of the strand that a worker holds
abbrev pub held_at : ℕ → List PlainPiece → Option ℕ
held_at w ps = held_from w 0 ps

-- the number of the first strand that begins at a place, of those from a number on
abbrev pub behind_from : Place → ℕ → List PlainPiece → Option ℕ
behind_from q i [] = None
behind_from q i (p ∷ ps) = cond (same_name (place_of p) q) (Some i) (behind_from q (suc i) ps)

-- the number of the left neighbour of the strand that begins at a place
abbrev pub neighbour_at : Place → List PlainPiece → Option ℕ
neighbour_at q [] = None
neighbour_at q (p ∷ ps) = behind_from q 0 ps

-- the strand of that number has a continuation to take
abbrev pub MayRob : ℕ → List PlainPiece → Type 0
MayRob i ps = (d : PlainPiece) → i < length ps → has_tasks (slice_index_or ps i d).deque ≡ true

-- a thief has taken the oldest continuation of the strand of that number
abbrev pub IsRobbed : Setting → ℕ → ℕ → PlainStrands → PlainStrands → Type 0
IsRobbed setting thief i s t =
    (d : PlainPiece) (kits : ℕ) → among (take i s.pieces) (drop (suc i) s.pieces) s.history
    (stolen_of setting thief (suc kits) (slice_index_or s.pieces i d) (slice_index_or s.pieces i d).deque)
    ≡ Ok (record { pieces = t.pieces; kits = kits; history = t.history })

-- what a strand that is laid down so keeps: a faulted one its lowest layer alone
abbrev pub laid_strand : State → PlainStrand → PlainStrand
laid_strand state.Faulted s = lowest_alone s
laid_strand _ s = s

-- so many kits come home then
abbrev pub freed : State → PlainPiece → ℕ
freed state.Faulted p = length p.strand.lower
freed _ p = 0

-- the strand laid down so
abbrev pub laid_down : State → PlainPiece → PlainPiece
laid_down state p = record { strand = laid_strand state p.strand; deque = []; state = named_state state }

-- the strand of that number, which is p, is laid down so
pub record IsLaidDown (i : ℕ) (state : State) (p : PlainPiece) (s t : PlainStrands) : Type 0 where
  pub pieces : t.pieces ≡ slice_set s.pieces i (laid_down state p)
  pub kits : length t.kits ≡ length s.kits + freed state p
  pub history : t.history ≡ s.history ++ laying_noted state (place_of p) ∷ []

abbrev pub LaysDown : Option State → ℕ → PlainPiece → PlainStrands → PlainStrands → Type 0
LaysDown None i p s t = ⊥
LaysDown (Some state) i p s t = IsLaidDown i state p s t

-- the strand of that number is laid down as what its holder leaves it
abbrev pub IsLaid : List Code → ℕ → PlainStrands → PlainStrands → Type 0
IsLaid codes i s t =
    (d : PlainPiece) → LaysDown (laid_at (pause_of codes (slice_index_or s.pieces i d).strand) (slice_index_or s.pieces i d).deque) i
    (slice_index_or s.pieces i d) s t

-- memory is refused where the strand was to be laid down
abbrev pub IsLayingRefused : Option State → Refusal → Type 0
IsLayingRefused None e = e ≡ NotThere
IsLayingRefused (Some state) e = e ≡ NoMemory
