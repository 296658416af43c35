-- The layers of strands that were laid down: one is all that a stalled, faulted or finished strand has.
use Rattle.std.proofs.Common.{◌≡◌, inl, inr, suc, Bool, true, false, List, [], ◌∷◌, length, map, All, refl, ap, subst}
use Rattle.std.proofs.lemmas.List.Elements.{All-nil, All-cons}
use Rattle.meaning.specs.Trail.{sight_of}
use Rattle.meaning.specs.Tallies.{valid_record}
use Rattle.meaning.specs.Layers.{Notes}
use Rattle.meaning.specs.Strands.{State, Held, Ended, Stalled, waits}
use Rattle.meaning.specs.Strands as strands
use Rattle.meaning.specs.LayeredStrand.{LayeredStrand}
use Rattle.meaning.specs.SmallStep.{Continuation}
use Rattle.meaning.specs.Schedules.{Piece, RunState}
use Rattle.trail_theory.specs.Order.{Every}
use Rattle.trail_theory.specs.Right.{IsOneLayer}
use Rattle.trail_theory.specs.OwedLayers.{Unbroken}
use Rattle.trail_theory.specs.OwnLayers.{OwnsNow}
use Rattle.trail_theory.proofs.OwnTheorems.{own_main}
use Rattle.run_theory.specs.RightRuns.{IsLaid, PiecesFit}
use Rattle.run_theory.specs.Theorems.{IsRightNow}
use Rattle.run_theory.specs.UnflaggedRuns.{unflagged_piece}
use Rattle.run_theory.proofs.Paths.{paths_right}
use Rattle.run_theory.proofs.News.{paths_own}
use Rattle.positions.specs.Setting.{Setting}
use Rattle.positions.specs.declared.phase.Phase.{Phase}
use Rattle.positions.specs.declared.phase.Phase.TheVariants as phase
use Rattle.positions.specs.Activations.{PlainActivation}
use Rattle.positions.specs.Layers.{PlainLayer}
use Rattle.positions.specs.declared.start.Start.{Start}
use Rattle.positions.specs.Stands.{AreNotes, StandsAt}
use Rattle.stepped_runs.specs.Pieces.{PlainPiece}
use Rattle.stepped_runs.specs.Runs.{PlainRun}
use Rattle.stepped_runs.specs.Stands.{valued, IsLaidAs, StandsForPiece, StandForPieces, StandsForUnflagged}
use Rattle.stepped_runs.specs.Layered.{HasOneLayerAs, HasOneLayer}
use Rattle.stepped_runs.specs.Simulation.{IsPrepared, IsReached}
use Rattle.stepped_runs.proofs.Agreeing.{Each, none_there}

-- a strand that is laid down to be folded
pub waiting_layers : (st : State) (s : LayeredStrand) (ks : List Continuation) → IsLaid st s ks → waits st ≡ true → length s.layers ≡ 1
waiting_layers Stalled s ks h e = h.one_layer
waiting_layers strands.Faulted s ks h e = h.one_layer
waiting_layers (Held w) s ks h e = absurd cc
waiting_layers Ended s ks h e = absurd cc
waiting_layers strands.Finished s ks h e = absurd cc

one_long : (ls : List Notes) → IsOneLayer ls → length ls ≡ 1
one_long [] h = absurd h
one_long (l ∷ []) h = refl
one_long (l ∷ m ∷ ls) h = absurd h

each_all : (P : PlainPiece → Type 0) (ps : List PlainPiece) → Each P ps → All P ps
each_all P [] h = All-nil P
each_all P (p ∷ ps) h = All-cons P p ps h.0 (each_all P ps h.1)

module _ (setting : Setting) where
  -- ---- as many by number as by name

  pub notes_long : (st : Start) (l : PlainLayer) (lower : List PlainLayer) (ls : List Notes) → AreNotes setting st (l ∷ lower) ls → length ls ≡ suc (length lower)
  notes_long st l lower [] h = absurd h
  notes_long st l [] (n ∷ []) h = refl
  notes_long st l [] (n ∷ m ∷ ns) h = absurd h.1
  notes_long st l (m ∷ lower) (n ∷ ns) h = ap suc (notes_long st m lower ns h.1)

  pub none_lower : (st : Start) (l : PlainLayer) (lower : List PlainLayer) (ls : List Notes) → AreNotes setting st (l ∷ lower) ls → length ls ≡ 1 → lower ≡ []
  none_lower st l [] ls h e = refl
  none_lower st l (m ∷ lower) ls h e = let n = notes_long st l (m ∷ lower) ls h in absurd cc

  -- ---- one piece

  abbrev Owns : Piece → Type 0
  Owns x = OwnsNow setting.program setting.tables (valid_record setting.program setting.tables setting.memory.records) x.strand x.tally

  -- what a run of the definitions has of each of its pieces
  abbrev Keeps : Piece → Type 0
  Keeps x = IsLaid x.state x.strand x.deque × Unbroken x.strand.phase (Owns x)

  module _ (p : PlainPiece) (x : Piece) (h : StandsForPiece setting p (unflagged_piece x)) where
    one_by : length x.strand.layers ≡ 1 → p.strand.lower ≡ []
    one_by e = none_lower p.strand.start p.strand.layer p.strand.lower x.strand.layers h.strand.layers e

    finished_main : (st : State) → IsLaid st x.strand x.deque → st ≡ strands.Finished → x.strand.frame.instance ≡ []
    finished_main strands.Finished k e = k.main
    finished_main (Held w) k e = absurd cc
    finished_main Ended k e = absurd cc
    finished_main Stalled k e = absurd cc
    finished_main strands.Faulted k e = absurd cc

    layered_as : (st : State) (ph : Phase) (below : List PlainActivation) → x.state ≡ st → IsLaidAs st ph p.strand → StandsAt setting ph below p.strand (unflagged_piece x).strand → Keeps x → HasOneLayerAs st p.strand.lower
    layered_as (Held w) ph below e l i k = tt
    layered_as Ended ph below e l i k = tt
    layered_as Stalled ph below e l i k = one_by (waiting_layers x.state x.strand x.deque k.0 (ap waits e))
    layered_as strands.Faulted ph below e l i k = one_by (waiting_layers x.state x.strand x.deque k.0 (ap waits e))
    layered_as strands.Finished (phase.Leaving v) below e l i k =
        let owns : Owns x = subst (λ ph. Unbroken ph (Owns x)) i.phase k.1 in
        let one = own_main setting.program setting.tables (valid_record setting.program setting.tables setting.memory.records) x.strand x.tally (finished_main x.state k.0 e) owns in
        one_by (one_long x.strand.layers (subst (λ ph. Unbroken ph ((x.tally.opened ≡ []) × IsOneLayer x.strand.layers)) i.phase one).1)
    layered_as strands.Finished phase.Entering below e l i k = absurd l
    layered_as strands.Finished phase.Running below e l i k = absurd l
    layered_as strands.Finished phase.AtSpawn below e l i k = absurd l
    layered_as strands.Finished (phase.Returning v) below e l i k = absurd l
    layered_as strands.Finished (phase.Broken f) below e l i k = absurd l

    layered_piece : Keeps x → HasOneLayer p
    layered_piece k = layered_as p.state p.strand.phase p.strand.below h.state h.laid h.strand.now k

  layered_each : (ps : List PlainPiece) (xs : List Piece) → StandForPieces setting ps (map unflagged_piece xs) → Each Keeps xs → Each HasOneLayer ps
  layered_each [] xs h k = tt
  layered_each (p ∷ ps) [] h k = absurd (none_there setting p ps h)
  layered_each (p ∷ []) (x ∷ []) h k = (layered_piece p x h k.0, tt)
  layered_each (p ∷ []) (x ∷ y ∷ xs) h k = absurd h
  layered_each (p ∷ q ∷ ps) (x ∷ []) h k = absurd h
  layered_each (p ∷ q ∷ ps) (x ∷ y ∷ xs) (inl h) k = (layered_piece p x h.0 k.0, layered_each (q ∷ ps) (y ∷ xs) h.1 k.1)
  layered_each (p ∷ q ∷ ps) (x ∷ y ∷ xs) (inr h) k =
      (layered_piece (valued h.0.to_left p) x h.0.left k.0, (layered_piece (valued h.0.to_right q) y h.0.right k.1.0, layered_each ps xs h.1 k.1.1))

  -- ---- whole runs

  module _ (prepared : IsPrepared setting) where
    pieces_keep : (first : Bool) (xs : List Piece) (found : List Bool) → PiecesFit setting.program.tree setting.tables (sight_of setting.program.tree setting.tables) (valid_record setting.program setting.tables setting.memory.records) first xs found
        → Every (λ x. Unbroken x.strand.phase (Owns x)) xs → Each Keeps xs
    pieces_keep first [] found h k = tt
    pieces_keep first (x ∷ xs) found h k = ((h.1.laid, k.0), pieces_keep false xs h.0 h.2 k.1)

    module _ (x : RunState) (r : IsReached setting x) where
      pub right_there : IsRightNow setting.program setting.tables setting.memory x
      right_there = subst (IsRightNow setting.program setting.tables setting.memory) r.is (paths_right setting.program setting.tables setting.memory prepared.ready r.kits r.steps)

      keep_there : Each Keeps x.pieces
      keep_there =
          pieces_keep true x.pieces [] right_there
          (subst (λ x. Every (λ p. Unbroken p.strand.phase (Owns p)) x.pieces) r.is (paths_own setting.program setting.tables setting.memory prepared.ready prepared.numbered r.kits r.steps))

    pub layered_there : (s : PlainRun) (x : RunState) → IsReached setting x → StandsForUnflagged setting s x → Each HasOneLayer s.pieces
    layered_there s x r h = layered_each s.pieces x.pieces h.pieces (keep_there x r)

    pub strands_layered : (s : PlainRun) (x : RunState) → IsReached setting x → StandsForUnflagged setting s x → All HasOneLayer s.pieces
    strands_layered s x r h = each_all HasOneLayer s.pieces (layered_there s x r h)
