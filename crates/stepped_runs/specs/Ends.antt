-- The end of a run of numbers, and what its history gives.
use Rattle.std.specs.Prelude.{◌≡◌, List, [], ◌∷◌, map, Option, Some, None}
use Rattle.monoid_laws.specs.Worth.{Worth}
use Rattle.meaning.specs.Elision as elision
use Rattle.meaning.specs.Elision.{Answer}
use Rattle.meaning.specs.Strands.{State, Faulted, Finished, Book, replayed}
use Rattle.positions.specs.Setting.{Setting}
use Rattle.positions.specs.declared.phase.Phase.{Phase}
use Rattle.positions.specs.declared.phase.Phase.TheVariants.{Leaving, Broken}
use Rattle.positions.specs.Stands.{named_fault}
use Rattle.stepped_runs.specs.Pieces.{PlainPiece}
use Rattle.stepped_runs.specs.Runs.{PlainRun, line_of}

module _ (setting : Setting) where
  abbrev pub answer_at : State → Phase → List Worth → Option Answer
  answer_at Finished (Leaving v) worths = Some (elision.Finished v worths)
  answer_at Faulted (Broken f) worths = Some (elision.Faulted (named_fault setting f))
  answer_at _ _ worths = None

  -- the answer, where one strand is left and it is laid down as finished or faulted
  abbrev pub answer_in : List PlainPiece → Option Answer
  answer_in (p ∷ []) = answer_at p.state p.strand.phase p.strand.layer.worths
  answer_in _ = None

-- the history is legal, and gives the list of the strands
abbrev pub HistoryGives : PlainRun → Type 0
HistoryGives s = (b : Book) × (replayed s.history ≡ Some b) × (b.lines ≡ map line_of s.pieces)
