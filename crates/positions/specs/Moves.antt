-- What is taken out of a strand and put back, the strands that begin, and two strands that become one, by numbers.
use Rattle.std.specs.Prelude.{ℕ, ◌-◌, ℤ, Bool, true, false, if◌then◌else◌, ◌==◌, List, [], ◌∷◌, map, length, Option, Some, None}
use Rattle.monoid_laws.specs.declared.Kind.{Kind}
use Rattle.meaning.specs.Elision.{depth_limit}
use Rattle.linked_program.specs.declared.code.Code.{Code}
use Rattle.linked_program.specs.CodeView.{slots_of}
use Rattle.linked_program.specs.declared.code.Operation.{Operation}
use Rattle.linked_program.specs.declared.code.Operation.TheVariants as o
use Rattle.linked_program.specs.declared.code.Instruction.{Instruction}
use Rattle.linked_program.specs.Initials.{PlainInitial}
use Rattle.evaluation.specs.declared.slot.Slot.{Slot}
use Rattle.evaluation.specs.declared.slot.Slot.TheVariants.{Waits, Has}
use Rattle.evaluation.specs.Slots.{slots_for}
use Rattle.positions.specs.declared.work.Work.{Work}
use Rattle.positions.specs.declared.work.Work.TheVariants.{Block, Over}
use Rattle.positions.specs.declared.phase.Phase.{Phase}
use Rattle.positions.specs.declared.phase.Phase.TheVariants.{Entering, Running, Leaving, Broken}
use Rattle.positions.specs.declared.phase.Fault.{Fault}
use Rattle.positions.specs.declared.start.Start.{Start}
use Rattle.positions.specs.declared.start.Start.TheVariants.{Root, Behind}
use Rattle.positions.specs.Activations.{PlainActivation, bound, made, first_of}
use Rattle.positions.specs.Code.{may_nest}
use Rattle.positions.specs.Advance.{next_statement}
use Rattle.positions.specs.Layers.{PlainLayer, blank, begun, lowest, multiplied}
use Rattle.positions.specs.Tallies.{no_tally, tallies_joined}
use Rattle.positions.specs.Strands.{PlainStrand, PlainTask, shorter}

-- ---- at a spawn

-- the child as a call, which is to be entered
abbrev pub inlined : PlainStrand → PlainStrand
inlined s = record s { phase = Entering }

-- the child alone, which is to be entered
abbrev pub detached : PlainStrand → PlainStrand
detached s = record s { below = []; phase = Entering }

-- the continuation put back
abbrev pub attached : PlainTask → PlainStrand → PlainStrand
attached task s = record s { below = task.top ∷ task.below }

-- ---- a spawned child has returned

abbrev pub returned_at : Phase → List PlainActivation → List ℕ → Option ℤ
returned_at (Leaving v) [] (k ∷ n) = Some v
returned_at _ _ _ = None

-- the value of a spawned child that has returned
abbrev pub returned_of : PlainStrand → Option ℤ
returned_of s = returned_at s.phase s.below s.path

abbrev pub resumed_by : Option ℤ → PlainTask → PlainStrand → PlainStrand
resumed_by None task s = s
resumed_by (Some v) task s = record s { path = shorter s.path; top = bound task.top.into (Has v) task.top; below = task.below; phase = Running }

-- on with a continuation
abbrev pub resumed : PlainTask → PlainStrand → PlainStrand
resumed task s = resumed_by (returned_of s) task s

-- ---- strands that begin

-- main, not entered yet; its layer has the initial values
abbrev pub first_strand : List Code → List Kind → List PlainInitial → ℕ → PlainStrand
first_strand codes kinds initials main = record {
  start = Root;
  layer = begun kinds initials (blank false kinds (length codes));
  lower = [];
  path = [];
  top = made main (slots_for (slots_of codes main) []) (Block (first_of 0)) (depth_limit - 1);
  below = [];
  phase = Entering;
  arguments = [];
  tally = no_tally;
}

-- the instance at the spawn, in which a slot waits for the child
abbrev pub marked : PlainTask → PlainActivation
marked task = bound task.top.into (Waits task.top.children) task.top

-- a continuation that was stolen, with that layer
abbrev pub stolen_with : PlainLayer → PlainTask → PlainStrand
stolen_with layer task = record {
  start = Behind (length task.place - 1) task.top.children;
  layer = layer;
  lower = [];
  path = shorter task.place;
  top = marked task;
  below = task.below;
  phase = Running;
  arguments = [];
  tally = no_tally;
}

abbrev pub stolen : List Code → List Kind → PlainTask → PlainStrand
stolen codes kinds task = stolen_with (blank (may_nest codes) kinds (length codes)) task

-- ---- two strands become one

abbrev pub settled_slot : ℕ → ℤ → Slot → Slot
settled_slot k v (Waits j) = (if j == k then Has v else Waits j)
settled_slot k v s = s

-- the slots of a loop's instance are those of its loop, and wait for none of its children
abbrev pub settled_slots : Work → ℕ → ℤ → List Slot → List Slot
settled_slots (Block p) k v slots = map (settled_slot k v) slots
settled_slots Over k v slots = map (settled_slot k v) slots
settled_slots _ k v slots = slots

-- the value of an instance's child of that number goes where it is waited for
abbrev pub settled : ℕ → ℤ → PlainActivation → PlainActivation
settled k v a = record a { slots = settled_slots a.work k v a.slots }

abbrev pub settled_below : ℕ → ℕ → ℤ → List PlainActivation → List PlainActivation
settled_below i k v [] = []
settled_below i k v (a ∷ below) = (if i == 0 then settled k v a ∷ below else a ∷ settled_below (i - 1) k v below)

-- the instance so many places under the topmost one
abbrev pub settled_at : ℕ → ℕ → ℤ → PlainStrand → PlainStrand
settled_at i k v s = (if i == 0 then record s { top = settled k v s.top } else record s { below = settled_below (i - 1) k v s.below })

-- the value of the child behind which the strand begins: its entry waits for it
abbrev pub settled_by : Start → ℤ → PlainStrand → PlainStrand
settled_by Root v s = s
settled_by (Behind depth child) v s = settled_at (length s.path - depth) child v s

-- the left strand has ended, and the right one goes on
abbrev pub joined_ended : PlainStrand → ℤ → PlainStrand → PlainStrand
joined_ended l v r = record (settled_by r.start v r)
    { start = l.start; layer = multiplied l.layer r.layer; lower = l.lower; tally = tallies_joined l.tally r.tally }

-- one of them has a fault, and no view is folded: the left's place and layers stay, and the right's instances go
abbrev pub joined_broken : PlainStrand → PlainStrand → Fault → PlainStrand
joined_broken l r f = record l { phase = Broken f; tally = tallies_joined l.tally r.tally }

abbrev pub joined_after : Phase → PlainStrand → ℤ → PlainStrand → PlainStrand
joined_after (Broken f) l v r = joined_broken l r f
joined_after _ l v r = joined_ended l v r

abbrev pub joined_at : Phase → PlainStrand → PlainStrand → PlainStrand
joined_at (Broken f) l r = joined_broken l r f
joined_at (Leaving v) l r = joined_after r.phase l v r
joined_at _ l r = l

-- the left strand, which has ended or has a fault, and the right one behind it; the left's fault comes first
abbrev pub joined : PlainStrand → PlainStrand → PlainStrand
joined l r = joined_at l.phase l r

-- views are folded only where the left has ended and the right has no fault
abbrev pub FoldsViews : Phase → Phase → Type 0
FoldsViews (Leaving v) (Broken f) = ⊥
FoldsViews (Leaving v) _ = Unit {0}
FoldsViews _ _ = ⊥

-- ---- layers, updates, the end

-- a faulted strand keeps its lowest layer alone
abbrev pub lowest_alone : PlainStrand → PlainStrand
lowest_alone s = record s { layer = lowest s.layer s.lower; lower = [] }

abbrev pub is_update : Operation → Bool
is_update (o.Update r es) = true
is_update _ = false

abbrev pub is_update_there : Option Instruction → Bool
is_update_there None = false
is_update_there (Some i) = is_update i.operation

abbrev pub update_at : List Code → Phase → PlainStrand → Bool
update_at codes Running s = is_update_there (next_statement codes s)
update_at codes _ s = false

-- the next small step is that of an update
abbrev pub at_update : List Code → PlainStrand → Bool
at_update codes s = update_at codes s.phase s
