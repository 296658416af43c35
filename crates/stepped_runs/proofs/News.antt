-- What a run of numbers that has come to its end has counted and recorded.
use Rattle.std.proofs.Common.{◌≡◌, List, [], ◌∷◌, map, Some, refl, sym, ◌∙◌, ap, subst}
use Rattle.std.specs.Prelude.{ℤ}
use Rattle.monoid_laws.specs.Worth.{Worth}
use Rattle.meaning.specs.Elision.{Finished}
use Rattle.meaning.specs.Schedules.{Piece, RunState, first_state, path, end_of}
use Rattle.trail_theory.specs.Order.{Every}
use Rattle.trail_theory.specs.OpenLayers.{IsNewRecord}
use Rattle.trail_theory.specs.Counts.{CountsNeeded}
use Rattle.run_theory.specs.UnflaggedRuns.{unflagged_piece}
use Rattle.run_theory.proofs.News.{paths_news}
use Rattle.strand_theory.specs.Recorded.{AllRecordedBut}
use Rattle.run_theory.proofs.EndCounts.{counts_needed, records_executed, leaves_nothing}
use Rattle.positions.specs.Setting.{Setting}
use Rattle.stepped_runs.specs.Pieces.{PlainPiece}
use Rattle.stepped_runs.specs.Runs.{PlainRun}
use Rattle.stepped_runs.specs.Stands.{StandsForPiece, StandForPieces, StandsForUnflagged}
use Rattle.stepped_runs.specs.Ends.{answer_in}
use Rattle.numbered_runs.specs.News.{executed_with, HasCounted, HaveNews}
use Rattle.stepped_runs.specs.Simulation.{IsPrepared, IsReached}
use Rattle.stepped_runs.proofs.Ends.{same_answer}

module _ (setting : Setting) where
  -- what a list of one piece stands for
  record IsOnePiece (p : PlainPiece) (xs : List Piece) : Type 0 where
    pub whole : Piece
    pub is : xs ≡ whole ∷ []
    pub stands : StandsForPiece setting p (unflagged_piece whole)

  one_piece : (p : PlainPiece) (xs : List Piece) → StandForPieces setting (p ∷ []) (map unflagged_piece xs) → IsOnePiece p xs
  one_piece p [] h = absurd h
  one_piece p (y ∷ []) h = record { whole = y; is = refl; stands = h }
  one_piece p (y ∷ z ∷ xs) h = absurd h

  module _ (prepared : IsPrepared setting) (s : PlainRun) (x : RunState) (r : IsReached setting x) (h : StandsForUnflagged setting s x) (p : PlainPiece) (v : ℤ) (worths : List Worth)
      (one : s.pieces ≡ p ∷ []) (answer : answer_in setting s.pieces ≡ Some (Finished v worths)) where
    the_one : IsOnePiece p x.pieces
    the_one = one_piece p x.pieces (subst (λ ps. StandForPieces setting ps (map unflagged_piece x.pieces)) one h.pieces)

    alone_there : (path setting.program setting.tables setting.memory (first_state setting.program.tree r.kits) r.steps).pieces ≡ the_one.whole ∷ []
    alone_there = ap (λ (y : RunState). y.pieces) r.is ∙ the_one.is

    ends_there : end_of x ≡ Some (Finished v worths)
    ends_there = same_answer setting prepared s x r h ∙ answer

    counts : CountsNeeded setting.program setting.tables setting.memory.records the_one.whole.tally
    counts = counts_needed setting.program setting.tables setting.memory prepared.ready prepared.numbered r.kits r.steps the_one.whole v worths alone_there (ap end_of r.is ∙ ends_there)

    pub run_counted : HasCounted setting p.strand.tally
    run_counted = let t = the_one.stands.strand.tally in record { executed_are = sym t.executed ∙ counts.executed_are; reused_are = sym t.reused ∙ counts.reused_are }

    news_there : Every (λ (y : Piece). Every (IsNewRecord setting.program setting.tables) y.tally.made) (the_one.whole ∷ [])
    news_there = subst (λ ys. Every (λ (y : Piece). Every (IsNewRecord setting.program setting.tables) y.tally.made) ys) alone_there (paths_news setting.program setting.tables setting.memory prepared.ready prepared.numbered r.kits r.steps)

    pub run_recorded : HaveNews setting p.strand.tally
    run_recorded =
        let t = the_one.stands.strand.tally in
        record {
          kept = the_one.whole.tally.made;
          stand = t.made;
          news = news_there.0;
          each = subst (λ n. AllRecordedBut n the_one.whole.tally.made (executed_with setting setting.memory.records)) t.unrecorded (records_executed setting.program setting.tables setting.memory prepared.ready prepared.numbered r.kits r.steps the_one.whole v worths alone_there (ap end_of r.is ∙ ends_there));
          complete = λ none. leaves_nothing setting.program setting.tables setting.memory prepared.ready prepared.numbered r.kits r.steps the_one.whole v worths alone_there (ap end_of r.is ∙ ends_there) (t.unrecorded ∙ none);
        }
