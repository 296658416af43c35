-- The open layers of one strand, told of that strand alone: their instances are on the way from main to the topmost one, each
-- inside the next; so none of them has left.
use Rattle.std.specs.Prelude.{◌≡◌, ℕ, ℤ, Bool, true, false, List, [], ◌∷◌, ◌++◌, Option, suc, nat_eq, length}
use Rattle.meaning.specs.Tree.{Name, read, Body, step}
use Rattle.meaning.specs.Tables.{Tables}
use Rattle.meaning.specs.Outcome.{Log, Accumulators, Outcome, Place, Leaves}
use Rattle.meaning.specs.Records.{Revised}
use Rattle.meaning.specs.Trail.{child_of, sight_of}
use Rattle.meaning.specs.SmallStep.{Start, behind, same_name, is_entry, Frame, Todo, blocks, Child, Phase, entering, running, spawning}
use Rattle.meaning.specs.SmallStep.{returning, leaving, broken, with_layer, Lookup, Continuation, place_of_continuation}
use Rattle.meaning.specs.Layers.{Notes}
use Rattle.meaning.specs.LayeredStrand.{LayeredStrand, first_layered, inlined, detached, resumed, stolen, joined}
use Rattle.meaning.specs.Tallies.{Opened, Tally, no_tally, tallies_joined}
use Rattle.trail_theory.specs.Order.{In, Every}
use Rattle.trail_theory.specs.TaskFits.{Higher}
use Rattle.trail_theory.specs.Right.{stretch, IsOneLayer, MayJoin}
use Rattle.trail_theory.specs.OpenLayers.{recorded_under, IsTopLayer, ClosesTop, IsTallied}
use Rattle.trail_theory.specs.OwedLayers.{parents_behind, opened_names, Unbroken, IsOver, OwesLayers}
use Rattle.trail_theory.specs.TalliedTheorems.{IsTalliedNow, IsContinuationNow, advanced_now, tallied_now}

-- n is one of the instances on the way from main to m, and not m
pub record IsAround (m n : Place) : Type 0 where
  pub child : ℕ
  pub path : Place
  pub is : m ≡ n ++ child ∷ path

-- the layers' instances, the top one's first, each inside the next: the first around n
abbrev pub AreAround : Place → List Opened → Type 0
AreAround n [] = Unit {0}
AreAround n (o ∷ os) = IsAround n o.instance × AreAround o.instance os

-- the first may be n
abbrev pub AreOver : Place → List Opened → Type 0
AreOver n [] = Unit {0}
AreOver n (o ∷ os) = IsOver n o.instance × AreAround o.instance os

-- an instance has its layer from its entering to its last sync; a faulted strand's layers aren't claimed
abbrev pub Stands : Place → Phase → List Opened → Type 0
Stands n (entering child) os = AreAround n os
Stands n (running todo) os = AreOver n os
Stands n (spawning d x child todo) os = AreOver n os
Stands n (returning v) os = AreOver n os
Stands n (leaving v) os = AreAround n os
Stands n (broken k) os = Unit {0}

-- a tallied strand whose open layers are those of instances that it stands in
pub record OwnsLayers (program : Revised) (tables : Tables) (sight : Accumulators) (lookup : Lookup) (s : LayeredStrand) (t : Tally) : Type 0 where
  pub tallied : IsTallied program tables sight lookup s t
  pub stands : Stands s.frame.instance s.phase t.opened

-- none of these layers' instances leaves among these events
abbrev pub NotLeft : Log → List Opened → Type 0
NotLeft es os = Every (λ o. (w : Outcome) → In (Leaves o.instance w) es → ⊥) os

-- a test of whether the top layer is the instance's
abbrev pub TopTest : Type 0
TopTest = List Opened → Place → Bool

-- by its name
abbrev pub is_top : TopTest
is_top [] n = false
is_top (o ∷ os) n = same_name o.instance n

-- by the length of its name
abbrev pub is_top_by_length : TopTest
is_top_by_length [] n = false
is_top_by_length (o ∷ os) n = nat_eq (length o.instance) (length n)

-- the flag of an instance that returns above the entry says whether the top layer is its own
abbrev pub KnowsTop : Start → Frame → Phase → List Opened → Type 0
KnowsTop m fr (returning v) os = Higher m fr.instance → (fr.recorded ≡ true → IsTopLayer os fr.instance) × (fr.recorded ≡ false → IsTopLayer os fr.instance → ⊥)
KnowsTop m fr (entering child) os = Unit {0}
KnowsTop m fr (running todo) os = Unit {0}
KnowsTop m fr (spawning d x child todo) os = Unit {0}
KnowsTop m fr (leaving v) os = Unit {0}
KnowsTop m fr (broken k) os = Unit {0}

-- an instance that returns has the flag that the test gives it
abbrev pub frame_by : TopTest → Phase → List Opened → Frame → Frame
frame_by test (returning v) os fr = with_layer (test os fr.instance) fr
frame_by test (entering child) os fr = fr
frame_by test (running todo) os fr = fr
frame_by test (spawning d x child todo) os fr = fr
frame_by test (leaving v) os fr = fr
frame_by test (broken k) os fr = fr

abbrev pub strand_by : TopTest → LayeredStrand → Tally → LayeredStrand
strand_by test s t = record { start = s.start; layers = s.layers; frame = frame_by test s.phase t.opened s.frame; phase = s.phase; under = s.under }

-- the one that the top layer's name gives it
abbrev pub frame_by_name : Phase → List Opened → Frame → Frame
frame_by_name ph os fr = frame_by is_top ph os fr

abbrev pub by_name : LayeredStrand → Tally → LayeredStrand
by_name s t = strand_by is_top s t

-- an instance that has a layer has the top one as it returns, and none once it is left
abbrev pub OpenIsTop : Phase → Place → List Opened → Type 0
OpenIsTop (returning v) n os = In n (opened_names os) → IsTopLayer os n
OpenIsTop (leaving v) n os = In n (opened_names os) → ⊥
OpenIsTop (entering child) n os = In n (opened_names os) → ⊥
OpenIsTop (running todo) n os = In n (opened_names os) → IsTopLayer os n
OpenIsTop (spawning d x child todo) n os = In n (opened_names os) → IsTopLayer os n
OpenIsTop (broken k) n os = Unit {0}

-- the top layer is the instance's where their names are as long
abbrev pub TopByLength : Place → List Opened → Type 0
TopByLength n [] = Unit {0}
TopByLength n (o ∷ os) = length o.instance ≡ length n → o.instance ≡ n

module _ (program : Revised) (tables : Tables) (lookup : Lookup) where
  abbrev pub OwnsNow : LayeredStrand → Tally → Type 0
  OwnsNow s t = OwnsLayers program tables (sight_of program.tree tables) lookup s t

  -- each move of a strand leaves it the owner of its layers; no other strand, and no continuation's flag, is asked
  pub record LayersStayOwn : Type 0 where
    pub begins : OwnsNow (first_layered program.tree) no_tally
    pub advances : (kit : Bool) (s : LayeredStrand) (t : Tally) → OwnsNow s t
        → OwnsNow (advanced_now program tables lookup kit (by_name s t)) (tallied_now program tables lookup kit (by_name s t) t)
    pub advances_by_flag : (kit : Bool) (s : LayeredStrand) (t : Tally) → OwnsNow s t → KnowsTop s.start s.frame s.phase t.opened
        → OwnsNow (advanced_now program tables lookup kit s) (tallied_now program tables lookup kit s t)
    pub inlines : (s : LayeredStrand) (t : Tally) (d : ℕ) (x : Option ℕ) (child : Child) (todo : Todo) → s.phase ≡ spawning d x child todo
        → OwnsNow s t → OwnsNow (inlined program.tree s d x child todo) t
    pub detaches : (s : LayeredStrand) (t : Tally) (d : ℕ) (x : Option ℕ) (child : Child) (todo : Todo) → s.phase ≡ spawning d x child todo
        → OwnsNow s t → OwnsNow (detached program.tree s d child) t
    pub pops : (s : LayeredStrand) (t : Tally) (k : Continuation) (v : ℤ) → s.phase ≡ leaving v → s.under ≡ [] → s.start ≡ k.since
        → s.frame.instance ≡ place_of_continuation k → OwnsNow s t → IsContinuationNow program tables lookup k
        → OwnsNow (resumed program.tree s k v) t
    pub steals : (k : Continuation) → IsContinuationNow program tables lookup k → OwnsNow (stolen program.tree k) no_tally
    pub joins : (l r : LayeredStrand) (t u : Tally) (v : ℤ) (m : Place) (c : ℕ) (noted : Notes) → l.phase ≡ leaving v → l.under ≡ []
        → r.start ≡ behind m c → l.frame.instance ≡ child_of m c → r.layers ≡ noted ∷ [] → MayJoin l (joined program.tree l v r)
        → OwnsNow l t → OwnsNow r u → OwnsNow (joined program.tree l v r) (tallies_joined t u)

  -- no instance with an open layer has left in the strand's stretch
  abbrev pub OpenHasNotLeft : Type 0
  OpenHasNotLeft = (s : LayeredStrand) (t : Tally) (h : OwnsNow s t) → Unbroken s.phase (NotLeft (stretch h.tallied.right.segments) t.opened)

  -- a strand that stands at its entry has one layer
  abbrev pub OwnEntryHasOneLayer : Type 0
  OwnEntryHasOneLayer = (s : LayeredStrand) (t : Tally) → is_entry s.start s.frame.instance ≡ true → OwnsNow s t
      → Unbroken s.phase ((t.opened ≡ []) × IsOneLayer s.layers)

  -- and so has one whose topmost instance is main
  abbrev pub OwnMainHasOneLayer : Type 0
  OwnMainHasOneLayer = (s : LayeredStrand) (t : Tally) → s.frame.instance ≡ [] → OwnsNow s t → Unbroken s.phase ((t.opened ≡ []) × IsOneLayer s.layers)

  -- and one that stands at a read of a reducer
  abbrev pub OwnReadHasOneLayer : Type 0
  OwnReadHasOneLayer = (s : LayeredStrand) (t : Tally) (n x : ℕ) (r : Name) (b : Body) (bs : List Body)
      → s.phase ≡ running (blocks (step n (read x r) b ∷ bs)) → OwnsNow s t → (t.opened ≡ []) × IsOneLayer s.layers

  -- the layer that an instance closes is its own
  pub record OwnClosesItsOwn : Type 0 where
    pub by_its_name : (s : LayeredStrand) (t : Tally) → ClosesTop s.start (frame_by_name s.phase t.opened s.frame) s.phase t.opened
    pub is_top_one : (s : LayeredStrand) (t : Tally) → OwnsNow s t → OpenIsTop s.phase s.frame.instance t.opened

  -- a fold asks for no count of layers: the right strand stands at its entry
  abbrev pub OwnFolds : Type 0
  OwnFolds = (l r : LayeredStrand) (t u : Tally) (v : ℤ) (m : Place) (c : ℕ) → l.phase ≡ leaving v → l.under ≡ [] → r.start ≡ behind m c
      → l.frame.instance ≡ child_of m c → is_entry r.start r.frame.instance ≡ true → MayJoin l (joined program.tree l v r) → OwnsNow l t
      → OwnsNow r u → Unbroken r.phase (OwnsNow (joined program.tree l v r) (tallies_joined t u))

  -- a strand has one layer more than open ones, and names can be compared by their lengths
  pub record OwnLayersCount : Type 0 where
    pub layers : (s : LayeredStrand) (t : Tally) → OwnsNow s t → Unbroken s.phase (length s.layers ≡ suc (length t.opened))
    pub lengths : (s : LayeredStrand) (t : Tally) → OwnsNow s t → Unbroken s.phase (TopByLength s.frame.instance t.opened)

  -- where strands owe each other their layers, the flags say what the names say, and what their lengths say: so the step by names is the step
  pub record FlagsAreNames : Type 0 where
    pub knows : (s : LayeredStrand) (ks : List Continuation) (t : Tally) (left right : List Place) → OwesLayers s ks t left right
        → Every (IsAround s.frame.instance) (recorded_under (s.under ++ parents_behind ks) ++ right)
        → KnowsTop s.start s.frame s.phase t.opened
    pub same : (s : LayeredStrand) (t : Tally) → IsTalliedNow program tables lookup s t → is_entry s.start s.frame.instance ≡ false
        → KnowsTop s.start s.frame s.phase t.opened → by_name s t ≡ s
    pub lengths : (s : LayeredStrand) (ks : List Continuation) (t : Tally) (left right : List Place) → OwesLayers s ks t left right
        → Every (IsAround s.frame.instance) (recorded_under (s.under ++ parents_behind ks) ++ right)
        → strand_by is_top_by_length s t ≡ by_name s t
