-- What is proved of the layers and the new records of strands.
use Rattle.std.specs.Prelude.{◌≡◌, ℕ, ℤ, Bool, true, List, [], ◌∷◌, ◌++◌, Option, length}
use Rattle.meaning.specs.Tree.{Name, read, Body, step}
use Rattle.meaning.specs.Tables.{Tables}
use Rattle.meaning.specs.Outcome.{Accumulators, Place}
use Rattle.meaning.specs.Elision.{Finished, from_scratch}
use Rattle.meaning.specs.Records.{Revised, Kept, needed, executed}
use Rattle.meaning.specs.Commits.{committed, kept_after}
use Rattle.meaning.specs.Trail.{child_of, sight_of}
use Rattle.meaning.specs.SmallStep.{root, behind, is_entry, Todo, blocks, Child, running, spawning, leaving, Lookup, Continuation, place_of_continuation, micro}
use Rattle.meaning.specs.Layers.{Notes, total}
use Rattle.meaning.specs.LayeredStrand.{LayeredStrand, advance_with, first_layered, inlined, detached, continuation, resumed, stolen, joined}
use Rattle.meaning.specs.RestOfRun.{lowest}
use Rattle.meaning.specs.Tallies.{Tally, no_tally, tallied, tallies_joined, valid_record}
use Rattle.trail_theory.specs.Order.{Every}
use Rattle.trail_theory.specs.TaskFits.{Stacked}
use Rattle.trail_theory.specs.Right.{IsRightContinuation, IsOneLayer, MayJoin}
use Rattle.trail_theory.specs.OpenLayers.{ClosesTop, IsShallowContinuation, IsNewRecord, IsTallied}
use Rattle.trail_theory.specs.Counts.{HasRecord, CountsNeeded}
use Rattle.trail_theory.specs.OwedLayers.{recorded_of, Unbroken, IsOver, OwesLayers}

module _ (program : Revised) (tables : Tables) (lookup : Lookup) where
  abbrev pub IsTalliedNow : LayeredStrand → Tally → Type 0
  IsTalliedNow s t = IsTallied program tables (sight_of program.tree tables) lookup s t

  abbrev pub IsContinuationNow : Continuation → Type 0
  IsContinuationNow k = IsRightContinuation program.tree tables (sight_of program.tree tables) lookup k × IsShallowContinuation k

  -- a small step, where a read gives the product of the layers, and what it counts and records
  abbrev pub advanced_now : Bool → LayeredStrand → LayeredStrand
  advanced_now kit s = advance_with program.tree tables lookup kit (total program.tree s.layers).worth s

  abbrev pub tallied_now : Bool → LayeredStrand → Tally → Tally
  tallied_now kit s t = tallied program s.layers (micro program.tree tables lookup kit (total program.tree s.layers).worth s.start s.frame s.phase s.under) t

  -- each move of a strand leaves it tallied
  pub record TalliedStays : Type 0 where
    pub begins : IsTalliedNow (first_layered program.tree) no_tally
    pub advances : (kit : Bool) (s : LayeredStrand) (t : Tally) → IsTalliedNow s t → ClosesTop s.start s.frame s.phase t.opened
        → IsTalliedNow (advanced_now kit s) (tallied_now kit s t)
    pub inlines : (s : LayeredStrand) (t : Tally) (d : ℕ) (x : Option ℕ) (child : Child) (todo : Todo) → s.phase ≡ spawning d x child todo
        → IsTalliedNow s t → IsTalliedNow (inlined program.tree s d x child todo) t
    pub detaches : (s : LayeredStrand) (t : Tally) (d : ℕ) (x : Option ℕ) (child : Child) (todo : Todo) → s.phase ≡ spawning d x child todo
        → IsTalliedNow s t → IsTalliedNow (detached program.tree s d child) t
    pub continues : (s : LayeredStrand) (t : Tally) (d : ℕ) (x : Option ℕ) (child : Child) (todo : Todo)
        → s.phase ≡ spawning d x child todo → IsTalliedNow s t → IsContinuationNow (continuation s x todo)
    pub pops : (s : LayeredStrand) (t : Tally) (k : Continuation) (v : ℤ) → s.phase ≡ leaving v → s.under ≡ [] → s.start ≡ k.since
        → s.frame.instance ≡ place_of_continuation k → IsTalliedNow s t → IsContinuationNow k → IsTalliedNow (resumed program.tree s k v) t
    pub steals : (k : Continuation) → IsContinuationNow k → IsTalliedNow (stolen program.tree k) no_tally
    pub joins : (l r : LayeredStrand) (t u : Tally) (v : ℤ) (m : Place) (c : ℕ) (noted : Notes) → l.phase ≡ leaving v → l.under ≡ []
        → r.start ≡ behind m c → l.frame.instance ≡ child_of m c → r.layers ≡ noted ∷ [] → MayJoin l (joined program.tree l v r)
        → IsTalliedNow l t → IsTalliedNow r u → IsTalliedNow (joined program.tree l v r) (tallies_joined t u)

  -- each move keeps what strands owe each other
  pub record LayersStayOwed : Type 0 where
    pub begins : OwesLayers (first_layered program.tree) [] no_tally [] []
    pub advances : (kit : Bool) (s : LayeredStrand) (ks : List Continuation) (t : Tally) (left right : List Place) → IsTalliedNow s t
        → OwesLayers s ks t left right → OwesLayers (advanced_now kit s) ks (tallied_now kit s t) left right
    pub inlines : (s : LayeredStrand) (ks : List Continuation) (t : Tally) (left right : List Place) (d : ℕ) (x : Option ℕ) (child : Child)
        (todo : Todo) → s.phase ≡ spawning d x child todo → OwesLayers s ks t left right
        → OwesLayers (inlined program.tree s d x child todo) ks t left right
    pub pushes : (s : LayeredStrand) (ks : List Continuation) (t : Tally) (left right : List Place) (d : ℕ) (x : Option ℕ) (child : Child)
        (todo : Todo) → s.phase ≡ spawning d x child todo → OwesLayers s ks t left right
        → OwesLayers (detached program.tree s d child) (continuation s x todo ∷ ks) t left right
    pub pops : (s : LayeredStrand) (k : Continuation) (ks : List Continuation) (t : Tally) (left right : List Place) (v : ℤ)
        → s.phase ≡ leaving v → s.under ≡ [] → OwesLayers s (k ∷ ks) t left right → OwesLayers (resumed program.tree s k v) ks t left right
    pub steals : (s : LayeredStrand) (younger : List Continuation) (k : Continuation) (t : Tally) (left right : List Place)
        → Stacked k.parent.frame.instance k.under → Every (IsOver (lowest k.parent.frame k.under)) right
        → OwesLayers s (younger ++ k ∷ []) t left right
        → (let middle = recorded_of (stolen program.tree k) [] ++ right in OwesLayers s younger t left middle
        × OwesLayers (stolen program.tree k) [] no_tally middle right)
    pub joins : (l r : LayeredStrand) (t u : Tally) (v : ℤ) (left middle right : List Place) → l.phase ≡ leaving v → l.under ≡ []
        → u.opened ≡ [] → OwesLayers l [] t left middle → OwesLayers r [] u middle right
        → OwesLayers (joined program.tree l v r) [] (tallies_joined t u) left right

  -- so the layer that an instance closes is its own
  abbrev pub ClosesItsOwn : Type 0
  ClosesItsOwn = (s : LayeredStrand) (ks : List Continuation) (t : Tally) (left right : List Place) → OwesLayers s ks t left right
      → ClosesTop s.start s.frame s.phase t.opened

  -- a strand at its entry's sync, with nothing behind it, has opened no layer that isn't closed
  abbrev pub EntryHasOneLayer : Type 0
  EntryHasOneLayer = (s : LayeredStrand) (t : Tally) (left right : List Place) → is_entry s.start s.frame.instance ≡ true
      → Every (IsOver (lowest s.frame s.under)) right → IsTalliedNow s t → OwesLayers s [] t left right
      → Unbroken s.phase ((t.opened ≡ []) × IsOneLayer s.layers)

  -- at a read of a reducer, with nothing behind it and nothing owed, a strand has one layer
  abbrev pub ReadHasOneLayer : Type 0
  ReadHasOneLayer = (s : LayeredStrand) (t : Tally) (n x : ℕ) (r : Name) (b : Body) (bs : List Body)
      → s.phase ≡ running (blocks (step n (read x r) b ∷ bs)) → IsTalliedNow s t → OwesLayers s [] t [] [] → IsOneLayer s.layers

-- where main's strand is over, its tally has counted the needed instances
abbrev pub EndCountsNeeded : Revised → Tables → List Kept → Type 0
EndCountsNeeded program tables records = (s : LayeredStrand) (t : Tally) (v : ℤ) → s.start ≡ root → s.phase ≡ leaving v → s.under ≡ []
    → s.frame.instance ≡ [] → IsTalliedNow program tables (valid_record program tables records) s t → CountsNeeded program tables records t

-- main's strand that is over has executed nothing, where the records are those after a finished run of the same program on the same tables
abbrev pub RerunExecutesNone : Revised → Tables → List Kept → Type 0
RerunExecutesNone program tables records = (v : ℤ) (acc : Accumulators) → from_scratch program.tree tables ≡ Finished v acc
    → (s : LayeredStrand) (t : Tally) (w : ℤ) → s.start ≡ root → s.phase ≡ leaving w → s.under ≡ [] → s.frame.instance ≡ []
    → IsTalliedNow program tables (valid_record program tables (kept_after program tables records)) s t → t.executed ≡ 0

-- new records, one at least of each needed execution
pub record RecordsEach (program : Revised) (tables : Tables) (records new : List Kept) : Type 0 where
  pub news : Every (IsNewRecord program tables) new
  pub each : Every (HasRecord new) (executed program.tree (needed program tables records))

-- with these put in, nothing is executed, where the run finishes
abbrev pub NoneAfterEach : Revised → Tables → List Kept → Type 0
NoneAfterEach program tables records = (new : List Kept) (v : ℤ) (acc : Accumulators) → from_scratch program.tree tables ≡ Finished v acc
    → RecordsEach program tables records new → executed program.tree (needed program tables (committed records new)) ≡ []

-- with the new records of main's strand that is over put in, as many as its executions, nothing is executed, where the run finishes
abbrev pub EndLeavesNone : Revised → Tables → List Kept → Type 0
EndLeavesNone program tables records = (v : ℤ) (acc : Accumulators) → from_scratch program.tree tables ≡ Finished v acc
    → (s : LayeredStrand) (t : Tally) (w : ℤ) → s.start ≡ root → s.phase ≡ leaving w → s.under ≡ [] → s.frame.instance ≡ []
    → IsTalliedNow program tables (valid_record program tables records) s t → t.executed ≡ length t.made
    → executed program.tree (needed program tables (committed records t.made)) ≡ []
