-- The end and the history of a run of numbers are those of the definitions' run that it stands for.
use Rattle.std.proofs.Common.{◌≡◌, inl, inr, List, [], ◌∷◌, map, Some, refl, sym, ◌∙◌, ap, subst}
use Rattle.meaning.specs.Elision as elision
use Rattle.meaning.specs.Elision.{Answer, from_scratch}
use Rattle.meaning.specs.SmallStep.{leaving}
use Rattle.meaning.specs.Layers.{Notes}
use Rattle.meaning.specs.Strands.{State, Held, Ended, Stalled, replayed}
use Rattle.meaning.specs.Strands as strands
use Rattle.meaning.specs.Schedules.{Piece, RunState, answer_by, answer_of_pieces, end_of}
use Rattle.meaning.specs.Schedules as schedules
use Rattle.strand_theory.specs.Ready.{IsReady}
use Rattle.run_theory.specs.Theorems as theorems
use Rattle.run_theory.specs.UnflaggedRuns.{unflagged_piece}
use Rattle.run_theory.proofs.Paths.{paths_answer}
use Rattle.run_theory.proofs.Legal.{paths_history}
use Rattle.run_theory.proofs.UnflaggedRuns.{lines_same}
use Rattle.positions.specs.Setting.{Setting}
use Rattle.positions.specs.declared.phase.Phase.{Phase}
use Rattle.positions.specs.declared.phase.Phase.TheVariants as phase
use Rattle.positions.specs.Activations.{PlainActivation}
use Rattle.positions.specs.Layers.{PlainLayer}
use Rattle.positions.specs.declared.start.Start.{Start}
use Rattle.positions.specs.Stands.{AreNotes, StandsAt}
use Rattle.stepped_runs.specs.Pieces.{PlainPiece, place_of}
use Rattle.stepped_runs.specs.Runs.{PlainRun, line_of}
use Rattle.stepped_runs.specs.Stands.{valued, IsLaidAs, StandsForPiece, StandForPieces, StandsForUnflagged}
use Rattle.stepped_runs.specs.Layered.{HasOneLayerAs, HasOneLayer}
use Rattle.stepped_runs.specs.Ends.{answer_at, answer_in, HistoryGives}
use Rattle.stepped_runs.specs.Simulation.{IsPrepared, IsReached}
use Rattle.stepped_runs.proofs.Agreeing.{Each, piece_place, none_there}
use Rattle.stepped_runs.proofs.Layered.{layered_there}

module _ (setting : Setting) where
  -- ---- the answer

  one_note : (st : Start) (l : PlainLayer) (ls : List PlainLayer) (ns : List Notes) → ls ≡ [] → AreNotes setting st (l ∷ ls) ns → (n : Notes) × (ns ≡ n ∷ []) × (n.worth ≡ l.worths)
  one_note st l [] [] e h = absurd h
  one_note st l [] (n ∷ []) e h = (n, refl, h.0.worths)
  one_note st l [] (n ∷ k ∷ ns) e h = absurd h.1
  one_note st l (m ∷ ls) ns e h = absurd cc

  module _ (p : PlainPiece) (x : Piece) (notes : AreNotes setting p.strand.start (p.strand.layer ∷ p.strand.lower) x.strand.layers) where
    answer_there : (st : State) (ph : Phase) (below : List PlainActivation) → IsLaidAs st ph p.strand → HasOneLayerAs st p.strand.lower → StandsAt setting ph below p.strand x.strand
        → answer_by st x.strand.phase x.strand.layers ≡ answer_at setting st ph p.strand.layer.worths
    answer_there strands.Finished (phase.Leaving v) below l o i =
        let n = one_note p.strand.start p.strand.layer p.strand.lower x.strand.layers o notes in
        ap (λ q. answer_by strands.Finished q x.strand.layers) i.phase ∙ ap (answer_by strands.Finished (leaving v)) n.1 ∙ ap (λ ws. Some (elision.Finished v ws)) n.2
    answer_there strands.Faulted (phase.Broken f) below l o i = ap (λ q. answer_by strands.Faulted q x.strand.layers) i
    answer_there (Held w) ph below l o i = refl
    answer_there Ended ph below l o i = refl
    answer_there Stalled ph below l o i = refl
    answer_there strands.Finished phase.Entering below l o i = absurd l
    answer_there strands.Finished phase.Running below l o i = absurd l
    answer_there strands.Finished phase.AtSpawn below l o i = absurd l
    answer_there strands.Finished (phase.Returning v) below l o i = absurd l
    answer_there strands.Finished (phase.Broken f) below l o i = absurd l
    answer_there strands.Faulted phase.Entering below l o i = absurd l
    answer_there strands.Faulted phase.Running below l o i = absurd l
    answer_there strands.Faulted phase.AtSpawn below l o i = absurd l
    answer_there strands.Faulted (phase.Returning v) below l o i = absurd l
    answer_there strands.Faulted (phase.Leaving v) below l o i = absurd l

  one_answer : (p : PlainPiece) (x : Piece) → StandsForPiece setting p x → HasOneLayer p → answer_by x.state x.strand.phase x.strand.layers ≡ answer_at setting p.state p.strand.phase p.strand.layer.worths
  one_answer p x h o =
      ap (λ st. answer_by st x.strand.phase x.strand.layers) h.state ∙ answer_there p x h.strand.layers p.state p.strand.phase p.strand.below h.laid o h.strand.now

  answers : (ps : List PlainPiece) (xs : List Piece) → StandForPieces setting ps (map unflagged_piece xs) → Each HasOneLayer ps → answer_of_pieces xs ≡ answer_in setting ps
  answers [] [] h o = refl
  answers [] (x ∷ xs) h o = absurd h
  answers (p ∷ ps) [] h o = absurd (none_there setting p ps h)
  answers (p ∷ []) (x ∷ []) h o = one_answer p (unflagged_piece x) h o.0
  answers (p ∷ []) (x ∷ y ∷ xs) h o = absurd h
  answers (p ∷ q ∷ ps) (x ∷ []) h o = absurd h
  answers (p ∷ q ∷ ps) (x ∷ y ∷ xs) h o = refl

  pub same_answer : IsPrepared setting → (s : PlainRun) (x : RunState) → IsReached setting x → StandsForUnflagged setting s x → end_of x ≡ answer_in setting s.pieces
  same_answer prepared s x r h = answers s.pieces x.pieces h.pieces (layered_there setting prepared s x r h)

  -- ---- the list of strands

  same_line : (p : PlainPiece) (x : Piece) → StandsForPiece setting p x → schedules.line_of x ≡ line_of p
  same_line p x h = ap (λ n. (n, x.state)) (piece_place setting p x h) ∙ ap (λ st. (place_of p, st)) h.state

  same_lines : (ps : List PlainPiece) (xs : List Piece) → StandForPieces setting ps xs → map schedules.line_of xs ≡ map line_of ps
  same_lines [] [] h = refl
  same_lines [] (x ∷ xs) h = absurd h
  same_lines (p ∷ ps) [] h = absurd (none_there setting p ps h)
  same_lines (p ∷ []) (x ∷ []) h = ap (λ l. l ∷ []) (same_line p x h)
  same_lines (p ∷ []) (x ∷ y ∷ xs) h = absurd h
  same_lines (p ∷ q ∷ ps) (x ∷ []) h = absurd h
  same_lines (p ∷ q ∷ ps) (x ∷ y ∷ xs) (inl h) =
      ap (λ l. l ∷ map schedules.line_of (y ∷ xs)) (same_line p x h.0) ∙ ap (λ ls. line_of p ∷ ls) (same_lines (q ∷ ps) (y ∷ xs) h.1)
  same_lines (p ∷ q ∷ ps) (x ∷ y ∷ xs) (inr h) =
      ap (λ l. l ∷ map schedules.line_of (y ∷ xs)) (same_line (valued h.0.to_left p) x h.0.left) ∙ ap (λ l. line_of p ∷ l ∷ map schedules.line_of xs) (same_line (valued h.0.to_right q) y h.0.right)
      ∙ ap (λ ls. line_of p ∷ line_of q ∷ ls) (same_lines ps xs h.1)

-- ---- of runs that the steps lead to

module _ (setting : Setting) where
  pub answers_elision : IsPrepared setting → (s : PlainRun) (x : RunState) (a : Answer) → IsReached setting x → StandsForUnflagged setting s x → answer_in setting s.pieces ≡ Some a → a ≡ from_scratch setting.program.tree setting.tables
  answers_elision prepared s x a r h e =
      paths_answer setting.program setting.tables setting.memory prepared.ready r.kits r.steps a (ap end_of r.is ∙ same_answer setting prepared s x r h ∙ e)

  pub keeps_history : IsReady setting.program setting.tables setting.memory → (s : PlainRun) (x : RunState) → IsReached setting x → StandsForUnflagged setting s x → HistoryGives s
  keeps_history ready s x r h =
      let k = subst theorems.HistoryGives r.is (paths_history setting.program setting.tables setting.memory ready r.kits r.steps) in
      let lines = lines_same setting.program setting.tables setting.memory x.pieces in
      (k.0, ap replayed (sym h.history) ∙ k.1, k.2 ∙ sym lines ∙ same_lines setting s.pieces (map unflagged_piece x.pieces) h.pieces)
