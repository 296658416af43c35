-- A run on several workers: its strands in serial order with their deques, the free kits, and its steps.
use Rattle.std.specs.Prelude.{ℕ, zero, suc, ◌+◌, ◌-◌, nat_eq, nat_lt, length, Bool, true, false, cond, not, ◌&&◌, ◌||◌, List, [], ◌∷◌}
use Rattle.std.specs.Prelude.{◌++◌, map, Option, Some, None}
use Rattle.meaning.specs.Tree.{Tree}
use Rattle.meaning.specs.Tables.{Tables}
use Rattle.meaning.specs.Every.{every}
use Rattle.meaning.specs.Outcome.{Fault, Place}
use Rattle.meaning.specs.Elision.{Answer, Finished, Faulted}
use Rattle.meaning.specs.Trail.{child_of}
use Rattle.meaning.specs.Strands.{State, Held, Ended, Stalled, BookStep, Split, End, Stall, Finish, Fold, Line, is_free}
use Rattle.meaning.specs.Strands as strands
use Rattle.meaning.specs.SmallStep.{Slot, unset, waits, has, Start, root, behind, Frame, Phase, spawning, leaving, broken, Parent, Layers}
use Rattle.meaning.specs.SmallStep.{noting, opening_one, closing_one, Step, moved, taken, paused, at_sync, Continuation, same_name}
use Rattle.meaning.specs.SmallStep.{place_of_continuation, micro}
use Rattle.meaning.specs.Records.{Revised, Kept}
use Rattle.meaning.specs.Layers.{Notes, total}
use Rattle.meaning.specs.Tallies.{Tally, no_tally, tallied, tallies_joined, valid_record}
use Rattle.meaning.specs.LayeredStrand.{LayeredStrand, first_layered, advanced, inlined, detached, continuation, resumed, stolen, joined}

-- a strand, its continuations, the newest first, and who holds it or as what it was laid down
pub record Piece : Type 0 where
  pub strand : LayeredStrand
  pub deque : List Continuation
  pub state : State
  pub tally : Tally

-- the pieces in serial order, the number of free kits, the history
pub record RunState : Type 0 where
  pub pieces : List Piece
  pub kits : ℕ
  pub history : List BookStep

pub data RunStep : Type 0 where
  work push inline pop stall : ℕ → RunStep
  steal : ℕ → ℕ → RunStep
  fold : ℕ → Place → RunStep

-- the place after which a strand begins
abbrev pub place_of_start : Start → Place
place_of_start root = []
place_of_start (behind m k) = child_of m k

abbrev pub place_of : Piece → Place
place_of p = place_of_start p.strand.start

abbrev pub line_of : Piece → Line
line_of p = (place_of p, p.state)

-- main's strand is held by worker 0, and its kit is taken
abbrev pub first_state : Tree → ℕ → RunState
first_state program kits = record {
  pieces = record { strand = first_layered program; deque = []; state = Held 0; tally = no_tally } ∷ [];
  kits = kits - 1;
  history = [];
}

-- ---- where a step changes the list

abbrev pub is_held_by : ℕ → Piece → Bool
is_held_by w p = strands.holds_by w p.state

-- the worker holds nothing
abbrev pub is_idle : ℕ → List Piece → Bool
is_idle w ps = is_free (map line_of ps) w

-- what a step makes of the piece that it is taken on: the pieces in its place, the free kits, and the step of the book
pub record Change : Type 0 where
  pub pieces : List Piece
  pub kits : ℕ
  pub noted : List BookStep

abbrev pub among : List Piece → List Piece → List BookStep → Option Change → Option RunState
among before later history None = None
among before later history (Some c) = Some (record { pieces = before ++ (c.pieces ++ later); kits = c.kits; history = history ++ c.noted })

-- the change, where the worker's strand stands
abbrev pub changed : ℕ → (Piece → Option Change) → List Piece → List Piece → List BookStep → Option RunState
changed w change before [] history = None
changed w change before (p ∷ ps) history = cond (is_held_by w p) (among before ps history (change p)) (changed w change (before ++ p ∷ []) ps history)

abbrev pub alone : ℕ → Piece → Option Change
alone kits p = Some (record { pieces = p ∷ []; kits = kits; noted = [] })

-- ---- work: a small step; a layer that opens takes a kit, one that closes gives it back

abbrev pub kits_after : Layers → ℕ → ℕ
kits_after noting kits = kits
kits_after opening_one kits = kits - 1
kits_after closing_one kits = kits + 1

-- what a run has of earlier ones and for later ones: the records that may answer, and whether it makes new ones
pub record Memory : Type 0 where
  pub records : List Kept
  pub recording : Bool

-- a run that makes new records
abbrev pub recording_from : List Kept → Memory
recording_from records = record { records = records; recording = true }

-- a run for which `memo` has no effect
abbrev pub without_memo : Memory
without_memo = record { records = []; recording = false }

module _ (program : Revised) (tables : Tables) (memory : Memory) where
  abbrev pub step_of : ℕ → LayeredStrand → Step
  step_of kits s = micro program.tree tables (valid_record program tables memory.records) (memory.recording && nat_lt 0 kits)
      (total program.tree s.layers).worth s.start s.frame s.phase s.under

  abbrev pub worked_by : ℕ → Piece → Step → Option Change
  worked_by kits p (moved l evs fr ph t) =
      alone (kits_after l kits) (record {
        strand = advanced program.tree p.strand (moved l evs fr ph t);
        deque = p.deque;
        state = p.state;
        tally = tallied program p.strand.layers (moved l evs fr ph t) p.tally;
      })
  worked_by kits p (taken evs k fr ph t) =
      alone kits (record {
        strand = advanced program.tree p.strand (taken evs k fr ph t);
        deque = p.deque;
        state = p.state;
        tally = tallied program p.strand.layers (taken evs k fr ph t) p.tally;
      })
  worked_by kits p (paused e) = None

  abbrev pub worked : ℕ → Piece → Option Change
  worked kits p = worked_by kits p (step_of kits p.strand)

  -- ---- push, inline, pop

  -- at a spawn: the continuation goes to the deque, and the strand goes on with the child
  abbrev pub pushed_at : ℕ → Piece → Phase → Option Change
  pushed_at kits p (spawning d x child todo) =
      alone kits (record {
        strand = detached program.tree p.strand d child;
        deque = continuation p.strand x todo ∷ p.deque;
        state = p.state;
        tally = p.tally;
      })
  pushed_at kits p _ = None

  abbrev pub pushed : ℕ → Piece → Option Change
  pushed kits p = pushed_at kits p p.strand.phase

  -- at a spawn: the child is a call
  abbrev pub inlined_at : ℕ → Piece → Phase → Option Change
  inlined_at kits p (spawning d x child todo) =
      alone kits (record { strand = inlined program.tree p.strand d x child todo; deque = p.deque; state = p.state; tally = p.tally })
  inlined_at kits p _ = None

  abbrev pub inlined_of : ℕ → Piece → Option Change
  inlined_of kits p = inlined_at kits p p.strand.phase

  -- the spawned child has returned: on with the newest continuation
  abbrev pub popped_at : ℕ → Piece → Phase → List Parent → List Continuation → Option Change
  popped_at kits p (leaving v) [] (k ∷ ks) = alone kits (record { strand = resumed program.tree p.strand k v; deque = ks; state = p.state; tally = p.tally })
  popped_at kits p _ _ _ = None

  abbrev pub popped : ℕ → Piece → Option Change
  popped kits p = popped_at kits p p.strand.phase p.strand.under p.deque

  -- ---- steal: the oldest continuation and a kit; the new strand stands directly after its victim

  abbrev pub robbed : ℕ → ℕ → Piece → List Continuation → Continuation → Option Change
  robbed thief kits p younger k =
      Some (record {
        pieces = record { strand = p.strand; deque = younger; state = p.state; tally = p.tally } ∷ record {
          strand = stolen program.tree k;
          deque = [];
          state = Held thief;
          tally = no_tally;
        } ∷ [];
        kits = kits;
        noted = Split (place_of p) (place_of_continuation k) thief ∷ [];
      })

  abbrev pub robbed_of : ℕ → ℕ → Piece → List Continuation → List Continuation → Option Change
  robbed_of thief kits p younger [] = None
  robbed_of thief kits p younger (k ∷ []) = robbed thief kits p younger k
  robbed_of thief kits p younger (k ∷ j ∷ ks) = robbed_of thief kits p (younger ++ k ∷ []) (j ∷ ks)

  abbrev pub stolen_from : ℕ → ℕ → Piece → Option Change
  stolen_from thief zero p = None
  stolen_from thief (suc kits) p = robbed_of thief kits p [] p.deque

  -- ---- stall: the strand is laid down

  -- a faulted strand keeps its bottom layer alone
  abbrev pub bottom_alone : List Notes → List Notes
  bottom_alone [] = []
  bottom_alone (l ∷ []) = l ∷ []
  bottom_alone (l ∷ m ∷ ls) = bottom_alone (m ∷ ls)

  abbrev pub laid : ℕ → Piece → LayeredStrand → State → (Place → BookStep) → Option Change
  laid kits p s state step = Some (record {
    pieces = record { strand = s; deque = []; state = state; tally = p.tally } ∷ [];
    kits = kits;
    noted = step (place_of p) ∷ [];
  })

  -- at its bottom main is over, and another instance is a child that has returned
  abbrev pub left_by : ℕ → Piece → Place → Option Change
  left_by kits p [] = laid kits p p.strand strands.Finished Finish
  left_by kits p (k ∷ n) = laid kits p p.strand Ended End

  abbrev pub stalled_by : ℕ → Piece → Step → Option Change
  stalled_by kits p (paused at_sync) = laid kits p p.strand Stalled Stall
  stalled_by kits p _ = None

  abbrev pub stalled_at : ℕ → Piece → Phase → List Parent → List Continuation → Option Change
  stalled_at kits p (leaving v) [] [] = left_by kits p p.strand.frame.instance
  stalled_at kits p (broken k) _ _ =
      laid (kits + (length p.strand.layers - 1)) p
      (record {
        start = p.strand.start;
        layers = bottom_alone p.strand.layers;
        frame = p.strand.frame;
        phase = broken k;
        under = p.strand.under;
      }) strands.Faulted strands.Fault
  stalled_at kits p _ _ [] = stalled_by kits p (step_of kits p.strand)
  stalled_at kits p _ _ _ = None

  abbrev pub stalled : ℕ → Piece → Option Change
  stalled kits p = stalled_at kits p p.strand.phase p.strand.under p.deque

  -- ---- fold: two neighbours, the left ended or faulted, the right stalled or faulted, become one

  -- the instance leaves after the strand's place: it is not before it in the order of leavings
  abbrev pub leaves_before : Place → Place → Bool
  leaves_before [] n = false
  leaves_before (a ∷ m) [] = true
  leaves_before (a ∷ m) (b ∷ n) = nat_lt a b || (nat_eq a b && leaves_before m n)

  abbrev pub ends_after : Start → Place → Bool
  ends_after root c = true
  ends_after (behind m k) c = leaves_before (child_of m k) c

  abbrev pub would_wait : Start → Place → Slot → Bool
  would_wait m n unset = false
  would_wait m n (waits j) = ends_after m (child_of n j)
  would_wait m n (has v) = false

  abbrev pub none_waits : Start → Frame → Bool
  none_waits m fr = every (λ s. not (would_wait m fr.instance s)) fr.env

  abbrev pub none_waits_under : Start → List Parent → Bool
  none_waits_under m [] = true
  none_waits_under m (p ∷ t) = none_waits m p.frame && none_waits_under m t

  -- no name would wait for a child that ends after the left strand's place
  abbrev pub may_join : LayeredStrand → LayeredStrand → Bool
  may_join l r = none_waits l.start r.frame && none_waits_under l.start r.under

  -- where one is faulted no view is folded: the left's fault, or else the right's
  abbrev pub broken_pair : LayeredStrand → LayeredStrand → Fault → LayeredStrand
  broken_pair l r k = record { start = l.start; layers = l.layers; frame = r.frame; phase = broken k; under = r.under }

  abbrev pub joined_pair : LayeredStrand → Phase → LayeredStrand → Phase → Option LayeredStrand
  joined_pair l (broken k) r q = Some (broken_pair l r k)
  joined_pair l (leaving v) r (broken k) = cond (same_name l.frame.instance (place_of_start r.start)) (Some (broken_pair l r k)) None
  joined_pair l (leaving v) r q = cond (same_name l.frame.instance (place_of_start r.start) && may_join l (joined program.tree l v r))
      (Some (joined program.tree l v r)) None
  joined_pair l _ r q = None

  abbrev pub folded_by : ℕ → Piece → Piece → Option LayeredStrand → Option Piece
  folded_by w l r None = None
  folded_by w l r (Some s) = Some (record { strand = s; deque = []; state = Held w; tally = tallies_joined l.tally r.tally })

  -- in such states
  abbrev pub may_fold : State → State → Bool
  may_fold s t = strands.done s && strands.waits t

  abbrev pub folded : ℕ → Piece → Piece → Option Piece
  folded w l r = cond (may_fold l.state r.state) (folded_by w l r (joined_pair l.strand l.strand.phase r.strand r.strand.phase)) None

  abbrev pub folded_among : ℕ → ℕ → List Piece → List Piece → List BookStep → BookStep → Option Piece → Option RunState
  folded_among w kits before later history step None = None
  folded_among w kits before later history step (Some p) = Some (record { pieces = before ++ p ∷ later; kits = kits + 1; history = history ++ step ∷ [] })

  -- the right strand begins at that place
  abbrev pub folded_at : ℕ → Place → ℕ → List Piece → List Piece → List BookStep → Option RunState
  folded_at w q kits before (l ∷ r ∷ ps) history =
      cond (same_name (place_of r) q) (folded_among w kits before ps history (Fold (place_of l) (place_of r) w) (folded w l r))
      (folded_at w q kits (before ++ l ∷ []) (r ∷ ps) history)
  folded_at w q kits before _ history = None

  -- ---- a step, where it is allowed

  abbrev pub if_idle : Bool → Option RunState → Option RunState
  if_idle true s = s
  if_idle false s = None

  abbrev pub after_step : RunState → RunStep → Option RunState
  after_step s (work w) = changed w (worked s.kits) [] s.pieces s.history
  after_step s (push w) = changed w (pushed s.kits) [] s.pieces s.history
  after_step s (inline w) = changed w (inlined_of s.kits) [] s.pieces s.history
  after_step s (pop w) = changed w (popped s.kits) [] s.pieces s.history
  after_step s (stall w) = changed w (stalled s.kits) [] s.pieces s.history
  after_step s (steal t v) = if_idle (is_idle t s.pieces) (changed v (stolen_from t s.kits) [] s.pieces s.history)
  after_step s (fold w q) = if_idle (is_idle w s.pieces) (folded_at w q s.kits [] s.pieces s.history)

  -- a path: a step that isn't allowed leaves the state
  abbrev pub or_same : RunState → Option RunState → RunState
  or_same s None = s
  or_same s (Some t) = t

  abbrev pub path : RunState → List RunStep → RunState
  path s [] = s
  path s (e ∷ es) = path (or_same s (after_step s e)) es

-- the answer, where one strand is left and it is laid down as finished or faulted
abbrev pub answer_by : State → Phase → List Notes → Option Answer
answer_by strands.Finished (leaving v) (l ∷ []) = Some (Finished v l.worth)
answer_by strands.Faulted (broken k) _ = Some (Faulted k)
answer_by _ _ _ = None

abbrev pub answer_of_pieces : List Piece → Option Answer
answer_of_pieces (p ∷ []) = answer_by p.state p.strand.phase p.strand.layers
answer_of_pieces _ = None

abbrev pub end_of : RunState → Option Answer
end_of s = answer_of_pieces s.pieces
