-- What is proved of strands and of the trail, each for a program, its tables, what `read` sees, and the records that answer.
use Rattle.std.specs.Prelude.{◌≡◌, ℕ, ◌-◌, suc, ℤ, Bool, List, [], ◌∷◌, ◌++◌, Option, Some}
use Rattle.meaning.specs.Tree.{Name, read, Body, step, Tree}
use Rattle.meaning.specs.Tables.{Tables}
use Rattle.meaning.specs.Outcome.{Accumulators, Fault, Place, Site}
use Rattle.meaning.specs.Statements.{identities, initial_values}
use Rattle.meaning.specs.Elision.{elide, start, main, depth_limit, from_scratch, Finished, Faulted}
use Rattle.meaning.specs.Records.{Kept}
use Rattle.meaning.specs.Trail.{Look, run}
use Rattle.meaning.specs.SmallStep.{root, behind, Todo, blocks, Child, running, spawning, leaving, broken, Lookup, Continuation, place_of_continuation}
use Rattle.meaning.specs.Layers.{Notes, total, bottom}
use Rattle.meaning.specs.LayeredStrand.{LayeredStrand, advance_with, advance, first_layered, inlined, detached, continuation, resumed, stolen, joined}
use Rattle.trail_theory.specs.ReadsAtEnd.{IsOther}
use Rattle.trail_theory.specs.Right.{IsRight, IsRightContinuation, LookupIsSound, IsRecorded, RecordedAreSound, Sees, ReadsByOneLayer, MayJoin}
use Rattle.trail_theory.specs.ElisionBeside.{Matches, SaysElision}

module _ (program : Tree) (tables : Tables) (sight : Accumulators) where
  -- an instance's elision, and the same instance on the trail, at every place, whatever records answer
  abbrev pub ElisionIsTrail : Type 0
  ElisionIsTrail = (left : ℕ) (look : Look) (site : Site) (f : Name) (vs : List ℤ) (n : Place) (acc : Accumulators)
      → Matches (elide program tables (suc left) site f vs acc) (run program tables sight left look f vs n)

  -- the elision of every procedure but main is that instance on the trail
  abbrev pub OthersAreTrail : Type 0
  OthersAreTrail = (left : ℕ) (look : Look) (site : Site) (f : Name) → IsOther f → (vs : List ℤ) (n : Place) (acc : Accumulators)
      → Matches (elide program tables (suc left) site f vs acc) (run program tables sight left look f vs n)

  -- and for main from the initial values
  abbrev pub MainIsTrail : Type 0
  MainIsTrail = (look : Look) → Matches (elide program tables depth_limit start main [] (initial_values program))
      (run program tables sight (depth_limit - 1) look main [] [])

  -- records that say what the elision of their keys gives answer only with the runs that they stand for
  abbrev pub RecordsAreSound : Lookup → Type 0
  RecordsAreSound lookup =
      ((f : Name) (vs : List ℤ) (left : ℕ) (k : Kept) → lookup f vs (depth_limit - left) ≡ Some k
      → SaysElision program k (elide program tables (suc left) start f vs (identities program)) (depth_limit - left))
      → LookupIsSound program tables sight lookup

  -- records of recorded procedures that say what the elision of their keys gives answer only so
  abbrev pub RecordedRecordsAreSound : Lookup → Type 0
  RecordedRecordsAreSound lookup =
      ((f : Name) (vs : List ℤ) (left : ℕ) (k : Kept) → IsRecorded program f → lookup f vs (depth_limit - left) ≡ Some k
      → SaysElision program k (elide program tables (suc left) start f vs (identities program)) (depth_limit - left))
      → RecordedAreSound program tables sight lookup

  module _ (lookup : Lookup) where
    abbrev pub FirstIsRight : Type 0
    FirstIsRight = IsRight program tables sight lookup (first_layered program)

    abbrev pub AdvanceStaysRight : Type 0
    AdvanceStaysRight = (kit : Bool) (s : LayeredStrand) → IsRight program tables sight lookup s → Sees (bottom s.layers) sight s.phase
        → IsRight program tables sight lookup (advance program tables lookup kit s)

    -- a strand that stands at a read begins at the trail's beginning, is main's, and has nothing below it
    abbrev pub ReadsStandAtRoot : Type 0
    ReadsStandAtRoot = (s : LayeredStrand) (n x : ℕ) (r : Name) (b : Body) (bs : List Body)
        → s.phase ≡ running (blocks (step n (read x r) b ∷ bs)) → IsRight program tables sight lookup s
        → (s.start ≡ root) × (s.frame.instance ≡ []) × (s.under ≡ [])

    -- a strand of one layer has at a read what the elision has in the end
    abbrev pub ReadsSeeTheEnd : Type 0
    ReadsSeeTheEnd = (s : LayeredStrand) → IsRight program tables sight lookup s → ReadsByOneLayer s.layers s.phase → Sees (bottom s.layers) sight s.phase

    abbrev pub AdvanceReadingStaysRight : Type 0
    AdvanceReadingStaysRight = (kit : Bool) (s : LayeredStrand) → IsRight program tables sight lookup s → ReadsByOneLayer s.layers s.phase
        → IsRight program tables sight lookup (advance program tables lookup kit s)

    -- whatever the layers, where a read gives their product
    abbrev pub AdvanceByProductStaysRight : Type 0
    AdvanceByProductStaysRight = (kit : Bool) (s : LayeredStrand) → IsRight program tables sight lookup s
        → IsRight program tables sight lookup (advance_with program tables lookup kit (total program s.layers).worth s)

    -- at a spawn: the child as a call
    abbrev pub InlineStaysRight : Type 0
    InlineStaysRight = (s : LayeredStrand) (d : ℕ) (x : Option ℕ) (child : Child) (todo : Todo) → s.phase ≡ spawning d x child todo
        → IsRight program tables sight lookup s
        → IsRight program tables sight lookup (inlined program s d x child todo)

    -- the child alone
    abbrev pub DetachStaysRight : Type 0
    DetachStaysRight = (s : LayeredStrand) (d : ℕ) (x : Option ℕ) (child : Child) (todo : Todo) → s.phase ≡ spawning d x child todo
        → IsRight program tables sight lookup s
        → IsRight program tables sight lookup (detached program s d child)

    -- and what is left behind it
    abbrev pub ContinuationIsRight : Type 0
    ContinuationIsRight = (s : LayeredStrand) (d : ℕ) (x : Option ℕ) (child : Child) (todo : Todo) → s.phase ≡ spawning d x child todo
        → IsRight program tables sight lookup s
        → IsRightContinuation program tables sight lookup (continuation s x todo)

    abbrev pub StolenIsRight : Type 0
    StolenIsRight = (k : Continuation) → IsRightContinuation program tables sight lookup k → IsRight program tables sight lookup (stolen program k)

    -- the child that the continuation waits for has returned in the strand that left it
    abbrev pub PopStaysRight : Type 0
    PopStaysRight = (s : LayeredStrand) (k : Continuation) (v : ℤ) → s.phase ≡ leaving v → s.under ≡ [] → s.start ≡ k.since
        → s.frame.instance ≡ place_of_continuation k
        → IsRight program tables sight lookup s → IsRightContinuation program tables sight lookup k
        → IsRight program tables sight lookup (resumed program s k v)

    -- the right strand begins after the child with which the left one is over, and no name in it would wait for a child that ends after the left one's place
    abbrev pub JoinStaysRight : Type 0
    JoinStaysRight = (l r : LayeredStrand) (v : ℤ) (m : Place) (c : ℕ) (noted : Notes) → l.phase ≡ leaving v → l.under ≡ []
        → r.start ≡ behind m c → l.frame.instance ≡ m ++ c ∷ [] → r.layers ≡ noted ∷ []
        → MayJoin l (joined program l v r) → IsRight program tables sight lookup l → IsRight program tables sight lookup r
        → IsRight program tables sight lookup (joined program l v r)

    -- the strand of main that is over has the elision's number and values
    abbrev pub EndsWithElision : Type 0
    EndsWithElision = (s : LayeredStrand) (v : ℤ) (noted : Notes) → s.start ≡ root → s.phase ≡ leaving v → s.under ≡ []
        → s.frame.instance ≡ [] → s.layers ≡ noted ∷ []
        → IsRight program tables sight lookup s → from_scratch program tables ≡ Finished v noted.worth

    -- a strand at the trail's beginning that has a fault has the elision's
    abbrev pub FaultsWithElision : Type 0
    FaultsWithElision = (s : LayeredStrand) (k : Fault) → s.start ≡ root → s.phase ≡ broken k → IsRight program tables sight lookup s
        → from_scratch program tables ≡ Faulted k
