-- What is left to do of a whole run, done serially: its strands from left to right, each with its layers' values, its task and its continuations.
use Rattle.std.specs.Prelude.{ℤ, pos, List, [], ◌∷◌, ◌++◌, Ok}
use Rattle.meaning.specs.Tree.{Tree}
use Rattle.meaning.specs.Tables.{Tables}
use Rattle.meaning.specs.Outcome.{Accumulators, Place, combined}
use Rattle.meaning.specs.Statements.{reducers, identities}
use Rattle.meaning.specs.Elision.{Answer}
use Rattle.meaning.specs.Records.{with_kinds}
use Rattle.meaning.specs.SmallStep.{Frame, Parent}
use Rattle.meaning.specs.Rest.{Left, then_on, phase_left, parents_left, parents_of, answered}
use Rattle.meaning.specs.Layers.{Notes}
use Rattle.meaning.specs.LayeredStrand.{settled_frame, settled_under}
use Rattle.meaning.specs.Schedules.{Piece, RunState}

-- the values in hand, each of the child of that name
abbrev pub Hand : Type 0
Hand = List (Place × ℤ)

-- a value in hand goes into the name that waits for it, wherever its instance stands
abbrev pub with_hand : Hand → Frame → Frame
with_hand [] fr = fr
with_hand (h ∷ hs) fr = with_hand hs (settled_frame h.0 h.1 fr)

abbrev pub with_hand_under : Hand → List Parent → List Parent
with_hand_under [] t = t
with_hand_under (h ∷ hs) t = with_hand_under hs (settled_under h.0 h.1 t)

-- the instance at the bottom of what is left of a strand
abbrev pub lowest : Frame → List Parent → Place
lowest fr [] = fr.instance
lowest fr (p ∷ t) = lowest p.frame t

module _ (program : Tree) (tables : Tables) where
  -- the layers' values, the bottom one first
  abbrev pub times_layers : Accumulators → List Notes → Accumulators
  times_layers acc [] = acc
  times_layers acc (l ∷ ls) = combined (times_layers acc ls) (with_kinds (reducers program) l.worth)

  abbrev pub below : Piece → List Parent
  below p = p.strand.under ++ parents_of program tables p.deque

  -- one strand, with the values in hand before it
  abbrev pub piece_left : Piece → Hand → Left
  piece_left p hand acc = then_on (phase_left program tables (with_hand hand p.strand.frame) p.strand.phase
      (times_layers acc p.strand.layers)) (parents_left program tables (with_hand_under hand (below p)))

  -- the strands from left to right; of the last one the value counts
  abbrev pub pieces_left : List Piece → Hand → ℤ → Left
  pieces_left [] hand v acc = (Ok v, acc)
  pieces_left (p ∷ ps) hand v acc = then_on (piece_left p hand acc) (λ w. pieces_left ps ((lowest p.strand.frame (below p), w) ∷ hand) w)

  unfoldable pub rest_of_run : RunState → Answer
  rest_of_run s = answered program tables (pieces_left s.pieces [] (pos 0) (identities program))
