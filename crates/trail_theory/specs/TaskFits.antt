-- A strand's instances beside the serial run: their slots, their faults to answer, and where they stand.
use Rattle.std.specs.Prelude.{ℕ, suc, ◌<◌, ℤ, List, [], ◌∷◌, ◌++◌, Option, Some, None, Ok, Err, ◌≡◌, ◌⊎◌}
use Rattle.meaning.specs.Tree.{Tree}
use Rattle.meaning.specs.Outcome.{Log, Fault, Place, Event, Reads, Enters, Updates, Reuses, Begins, Syncs, Leaves, Faults, Marks, Spawns}
use Rattle.meaning.specs.Values.{Env}
use Rattle.meaning.specs.Trail.{child_of}
use Rattle.meaning.specs.SmallStep.{Slot, unset, waits, has, Start, root, behind, Frame, Child, Phase, entering, running, spawning}
use Rattle.meaning.specs.SmallStep.{returning, leaving, broken, Parent, opened}
use Rattle.trail_theory.specs.SerialRest.{Beside}
use Rattle.trail_theory.specs.Order.{In}
use Rattle.trail_theory.specs.Waiting.{with_name, IsOrderlyTodo}

abbrev pub value_in : Slot → Option ℤ → Type 0
value_in unset o = o ≡ None
value_in (waits j) o = ⊥
value_in (has v) o = o ≡ Some v

-- a slot beside the serial run's, where the events B came before the strand
pub data SlotFits (B : Log) (n : Place) (W : List ℕ) (x : ℕ) : Slot → Option ℤ → Type 0 where
  same : {s : Slot} {o : Option ℤ} → value_in s o → SlotFits B n W x s o
  late : {j : ℕ} {v : ℤ} → In (Leaves (child_of n j) (Ok v)) B → In x W → SlotFits B n W x (waits j) (Some v)
  lost : {j : ℕ} (k : Fault) → In (Leaves (child_of n j) (Err k)) B → In x W → SlotFits B n W x (waits j) None

-- names from the x-th on
abbrev pub EnvFits : Log → Place → List ℕ → ℕ → List Slot → Env → Type 0
EnvFits B n W x [] [] = Unit {0}
EnvFits B n W x [] (o ∷ E) = ⊥
EnvFits B n W x (s ∷ env) [] = ⊥
EnvFits B n W x (s ∷ env) (o ∷ E) = SlotFits B n W x s o × EnvFits B n W (suc x) env E

-- an instance that has a fault to answer got it from a spawned child among B
pub data DoomFits (B : Log) (n : Place) : Option Fault → Type 0 where
  sound : DoomFits B n None
  hit : {k : Fault} (j : ℕ) (k' : Fault) → In (Leaves (child_of n j) (Err k')) B → DoomFits B n (Some k)

-- ---- a task where the serial run stands

abbrev pub IsNew : Tree → Frame → Child → Type 0
IsNew program fr child = fr ≡ opened program fr.left child fr.instance

abbrev pub IsOrderlyPhase : Tree → List ℕ → Frame → Phase → Type 0
IsOrderlyPhase program W fr (entering child) = IsNew program fr child
IsOrderlyPhase program W fr (running todo) = IsOrderlyTodo W todo
IsOrderlyPhase program W fr (spawning d x child todo) = IsOrderlyTodo (with_name x W) todo
IsOrderlyPhase program W fr (returning v) = Unit {0}
IsOrderlyPhase program W fr (leaving v) = Unit {0}
IsOrderlyPhase program W fr (broken k) = Unit {0}

pub record FrameFits (program : Tree) (B : Log) (fr : Frame) (ph : Phase) (g : Beside) : Type 0 where
  pub waiting : List ℕ
  pub orderly : IsOrderlyPhase program waiting fr ph
  pub slots : EnvFits B fr.instance waiting 0 fr.env g.env
  pub doomed : DoomFits B fr.instance g.doom

abbrev pub UnderFits : Tree → Log → List Parent → List Beside → Type 0
UnderFits program B [] [] = Unit {0}
UnderFits program B [] (g ∷ gs) = ⊥
UnderFits program B (p ∷ t) [] = ⊥
UnderFits program B (p ∷ t) (g ∷ gs) = FrameFits program B p.frame (running p.todo) g × UnderFits program B t gs

-- the instance n was entered by m, or below it, after m's child k
pub record IsAbove (m : Place) (k : ℕ) (n : Place) : Type 0 where
  pub child : ℕ
  pub path : Place
  pub later : k < child
  pub is : n ≡ m ++ child ∷ path

abbrev pub Higher : Start → Place → Type 0
Higher root n = Unit {0}
Higher (behind m k) n = IsAbove m k n

abbrev pub Spot : Start → Place → ℕ → Type 0
Spot root n c = Unit {0}
Spot (behind m k) n c = (n ≡ m) × (k < c) ⊎ IsAbove m k n

-- where the topmost instance stands: the entry, later than its child k, or above it
abbrev pub Fringe : Start → Place → ℕ → Phase → Type 0
Fringe m n c (entering child) = Higher m n
Fringe m n c (running todo) = Spot m n c
Fringe m n c (spawning d x child todo) = Spot m n c
Fringe m n c (returning v) = Spot m n c
Fringe m n c (leaving v) = Higher m n
Fringe m n c (broken k) = Unit {0}

pub record IsChild (n : Place) (p : Frame) : Type 0 where
  pub number : ℕ
  pub is : n ≡ child_of p.instance number
  pub counted : number < p.next

abbrev pub Stacked : Place → List Parent → Type 0
Stacked n [] = Unit {0}
Stacked n (p ∷ t) = IsChild n p.frame × Stacked p.frame.instance t

abbrev pub SyncInside : Start → Event → Type 0
SyncInside m (Reads r) = Unit {0}
SyncInside m (Enters f args depth) = Unit {0}
SyncInside m (Updates n kind w) = Unit {0}
SyncInside m (Reuses f args ws) = Unit {0}
SyncInside m (Begins n depth) = Unit {0}
SyncInside m (Syncs n) = Higher m n
SyncInside m (Spawns n) = Unit {0}
SyncInside m (Leaves n (Ok v)) = Unit {0}
SyncInside m (Leaves n (Err k)) = ⊥
SyncInside m (Faults k) = ⊥
SyncInside m (Marks f args b) = Unit {0}

pub record TaskFits (program : Tree) (B : Log) (m : Start) (fr : Frame) (ph : Phase) (t : List Parent) (g : Beside) (gs : List Beside) : Type 0 where
  pub frame_fits : FrameFits program B fr ph g
  pub under_fits : UnderFits program B t gs
  pub fringe : Fringe m fr.instance fr.next ph
  pub stacked : Stacked fr.instance t
