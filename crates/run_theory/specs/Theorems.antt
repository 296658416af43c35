-- What is proved of runs on several workers.
use Rattle.std.specs.Prelude.{ℤ, true, ◌++◌, ◌≡◌, ℕ, suc, ◌+◌, ◌<◌, List, [], ◌∷◌, length, map, Some}
use Rattle.meaning.specs.Tables.{Tables}
use Rattle.meaning.specs.Outcome.{Accumulators}
use Rattle.meaning.specs.Elision.{Answer, Finished, from_scratch}
use Rattle.meaning.specs.Trail.{sight_of}
use Rattle.meaning.specs.Records.{Revised, needed, executed}
use Rattle.meaning.specs.Commits.{committed}
use Rattle.meaning.specs.Strands.{Book, replayed, done, waits}
use Rattle.meaning.specs.Tallies.{valid_record}
use Rattle.meaning.specs.RestOfRun.{rest_of_run}
use Rattle.meaning.specs.Schedules.{Memory, Piece, line_of, RunState, RunStep, first_state, after_step, path, end_of, fold, place_of, is_idle}
use Rattle.trail_theory.specs.Order.{Every}
use Rattle.trail_theory.specs.Counts.{CountsNeeded}
use Rattle.trail_theory.specs.OpenLayers.{IsNewRecord}
use Rattle.trail_theory.specs.OwedLayers.{Unbroken}
use Rattle.trail_theory.specs.OwnLayers.{OwnsNow}
use Rattle.run_theory.specs.RightRuns.{IsRightRun}
use Rattle.run_theory.specs.OverRuns.{ReadsNoMore, AreOver}

-- the layers of all strands
abbrev pub layers_in : List Piece → ℕ
layers_in [] = 0
layers_in (p ∷ ps) = length p.strand.layers + layers_in ps

-- the free kits, and one for each layer
abbrev pub kits_of : RunState → ℕ
kits_of s = s.kits + layers_in s.pieces

-- the history is legal, and gives the list of the strands
abbrev pub HistoryGives : RunState → Type 0
HistoryGives s = (b : Book) × (replayed s.history ≡ Some b) × (b.lines ≡ map line_of s.pieces)

module _ (program : Revised) (tables : Tables) (memory : Memory) where
  -- a run of that program on those tables, where these memory answer, is right
  abbrev pub IsRightNow : RunState → Type 0
  IsRightNow = IsRightRun program.tree tables (sight_of program.tree tables) (valid_record program tables memory.records)

  abbrev pub StepsStayRight : Type 0
  StepsStayRight = (s t : RunState) (e : RunStep) → IsRightNow s → after_step program tables memory s e ≡ Some t → IsRightNow t

  abbrev pub PathsAreRight : Type 0
  PathsAreRight = (kits : ℕ) (es : List RunStep) → IsRightNow (path program tables memory (first_state program.tree kits) es)

  abbrev pub RightRunsAnswer : Type 0
  RightRunsAnswer = (s : RunState) (a : Answer) → IsRightNow s → end_of s ≡ Some a → a ≡ from_scratch program.tree tables

  -- whatever the steps are, a run that comes to its end answers the elision from scratch
  abbrev pub PathsAnswer : Type 0
  PathsAnswer = (kits : ℕ) (es : List RunStep) (a : Answer)
      → end_of (path program tables memory (first_state program.tree kits) es) ≡ Some a → a ≡ from_scratch program.tree tables

  -- ---- kits

  abbrev pub StepsKeepKits : Type 0
  StepsKeepKits = (s t : RunState) (e : RunStep) → IsRightNow s → after_step program tables memory s e ≡ Some t → kits_of t ≡ kits_of s

  abbrev pub PathsKeepKits : Type 0
  PathsKeepKits = (kits : ℕ) (es : List RunStep) → 0 < kits → kits_of (path program tables memory (first_state program.tree kits) es) ≡ kits

  -- at the end all kits are free but the one that has the answer
  abbrev pub EndsFreeKits : Type 0
  EndsFreeKits = (kits : ℕ) (es : List RunStep) (a : Answer) → 0 < kits
      → end_of (path program tables memory (first_state program.tree kits) es) ≡ Some a
      → suc (path program tables memory (first_state program.tree kits) es).kits ≡ kits

  -- ---- history

  abbrev pub PathsKeepHistory : Type 0
  PathsKeepHistory = (kits : ℕ) (es : List RunStep) → HistoryGives (path program tables memory (first_state program.tree kits) es)

  -- ---- folds

  -- neighbours of which the left one is over or has a fault and the right one waits are folded by any worker that holds nothing
  abbrev pub NeighboursFold : Type 0
  NeighboursFold = (kits : ℕ) (es : List RunStep) (before later : List Piece) (l r : Piece) (w : ℕ)
      → let s = path program tables memory (first_state program.tree kits) es in
      s.pieces ≡ before ++ l ∷ r ∷ later → done l.state ≡ true → waits r.state ≡ true → is_idle w s.pieces ≡ true
      → (t : RunState) × (after_step program tables memory s (fold w (place_of r)) ≡ Some t)

  -- ---- new records

  -- each record that the strands have made is sound, holds now, and fits at the least depth
  abbrev pub PathsMakeNews : Type 0
  PathsMakeNews = (kits : ℕ) (es : List RunStep)
      → Every (λ p. Every (IsNewRecord program tables) p.tally.made) (path program tables memory (first_state program.tree kits) es).pieces

  -- each strand without a fault owns its open layers: they are those of instances on the way to its topmost one
  abbrev pub PathsOwnLayers : Type 0
  PathsOwnLayers = (kits : ℕ) (es : List RunStep)
      → Every (λ p. Unbroken p.strand.phase (OwnsNow program tables (valid_record program tables memory.records) p.strand p.tally))
      (path program tables memory (first_state program.tree kits) es).pieces

  -- where a run has come to its end without a fault, its tally has counted the needed instances
  abbrev pub PathsCountNeeded : Type 0
  PathsCountNeeded = (kits : ℕ) (es : List RunStep) (p : Piece) (v : ℤ) (acc : Accumulators)
      → let s = path program tables memory (first_state program.tree kits) es in s.pieces ≡ p ∷ [] → end_of s ≡ Some (Finished v acc)
      → CountsNeeded program tables memory.records p.tally

  -- and where it left none of them unrecorded, with its new records put in nothing is executed
  abbrev pub PathsLeaveNothing : Type 0
  PathsLeaveNothing = (kits : ℕ) (es : List RunStep) (p : Piece) (v : ℤ) (acc : Accumulators)
      → let s = path program tables memory (first_state program.tree kits) es in
      s.pieces ≡ p ∷ [] → end_of s ≡ Some (Finished v acc) → p.tally.unrecorded ≡ 0
      → executed program.tree (needed program tables (committed memory.records p.tally.made)) ≡ []

  -- ---- what is left to do

  abbrev pub RestBegins : Type 0
  RestBegins = (kits : ℕ) → rest_of_run program.tree tables (first_state program.tree kits) ≡ from_scratch program.tree tables

  abbrev pub RestEnds : Type 0
  RestEnds = (s : RunState) (a : Answer) → IsRightNow s → end_of s ≡ Some a → rest_of_run program.tree tables s ≡ a

  -- after any steps, whoever has taken them, it is the elision from scratch
  abbrev pub PathsKeepRest : Type 0
  PathsKeepRest = (kits : ℕ) (es : List RunStep)
      → rest_of_run program.tree tables (path program tables memory (first_state program.tree kits) es) ≡ from_scratch program.tree tables

  -- where each strand is over, up to the first that has a fault, what is left is the elision's answer: the values in serial order, or that fault
  abbrev pub OverRunsAnswer : Type 0
  OverRunsAnswer = (s : RunState) (p : Piece) (ps : List Piece) → IsRightNow s → s.pieces ≡ p ∷ ps → AreOver (p ∷ ps)
      → rest_of_run program.tree tables s ≡ from_scratch program.tree tables

  -- where the first strand is at work, and no block that is left of it reads a reducer, and the others are over, up to the first that has a fault
  abbrev pub FrontRunsAnswer : Type 0
  FrontRunsAnswer = (s : RunState) (p : Piece) (ps : List Piece) → IsRightNow s → s.pieces ≡ p ∷ ps → ReadsNoMore p → AreOver ps
      → rest_of_run program.tree tables s ≡ from_scratch program.tree tables
