-- What a strand of numbers stands for: a strand of the definitions, whose instances and procedures go by name.
use Rattle.std.specs.Prelude.{◌≡◌, ℕ, zero, suc, ◌-◌, ◌<◌, ◌≤◌, ℤ, Bool, true, false, List, [], ◌∷◌, ◌++◌, map}
use Rattle.std.specs.Prelude.{length, replicate, take, Option, None, slice_get}
use Rattle.meaning.specs.Tree.{Body, Proc, Tree}
use Rattle.meaning.specs.Outcome.{Place, Fault as NamedFault}
use Rattle.meaning.specs.Trail.{child_of}
use Rattle.meaning.specs.Statements.{reducers, found, proc_of, fresh, Job}
use Rattle.meaning.specs.SmallStep.{slot, root, behind, Start as NamedStart, Frame, Todo, blocks, halves, second, turns, Child, instance}
use Rattle.meaning.specs.SmallStep.{half, Phase as NamedPhase, entering, running, spawning, returning, leaving, broken, Parent}
use Rattle.meaning.specs.SmallStep.{Continuation, Slot as NamedSlot}
use Rattle.meaning.specs.Layers.{Notes}
use Rattle.meaning.specs.Statements.{procedure_of}
use Rattle.meaning.specs.Tables.{is_there}
use Rattle.meaning.specs.Tallies.{Opened, Tally}
use Rattle.meaning.specs.LayeredStrand.{LayeredStrand}
use Rattle.linked_program.specs.Procedures.{procedures}
use Rattle.linked_program.specs.Linked.{Acts, ends, steps, procedure_number, linked_term, linked_body}
use Rattle.linked_program.specs.CodeView.{expression, code_block, memo_of}
use Rattle.evaluation.specs.declared.slot.Slot.{Slot}
use Rattle.evaluation.specs.Slots.{meant, env_of}
use Rattle.evaluation.specs.Numbers.{numbered}
use Rattle.positions.specs.declared.work.Position.{Position}
use Rattle.positions.specs.declared.work.Loop.{Loop}
use Rattle.positions.specs.declared.work.Work.{Work}
use Rattle.positions.specs.declared.work.Work.TheVariants.{Block, Over, Halves, Second, Turns}
use Rattle.positions.specs.declared.phase.Fault.{Fault}
use Rattle.positions.specs.declared.phase.Phase.{Phase}
use Rattle.positions.specs.declared.phase.Phase.TheVariants.{Entering, Running, AtSpawn, Returning, Leaving, Broken}
use Rattle.positions.specs.declared.start.Start.{Start}
use Rattle.positions.specs.declared.start.Start.TheVariants.{Root, Behind}
use Rattle.positions.specs.Setting.{Setting}
use Rattle.positions.specs.Activations.{PlainActivation, first_of}
use Rattle.positions.specs.Code.{may_nest, blocks_at, loop_at}
use Rattle.positions.specs.Layers.{PlainLayer, flagged}
use Rattle.record_theory.specs.Named.{number_of, SameMembers, AreRecords}
use Rattle.positions.specs.Tallies.{PlainOpened, PlainTally}
use Rattle.positions.specs.Strands.{PlainStrand, PlainTask, shorter}

-- a block from the n-th statement on
abbrev pub acts_from : ℕ → Acts → Acts
acts_from zero b = b
acts_from (suc n) ends = ends
acts_from (suc n) (steps k d b) = acts_from n b

-- where a strand begins; an instance that is to be entered, or leaves, is not that in which the strand begins
abbrev pub IsWithin : Phase → ℕ → ℕ → Type 0
IsWithin Entering depth n = depth < n
IsWithin AtSpawn depth n = depth < n
IsWithin (Leaving v) depth n = depth < n
IsWithin _ depth n = depth ≤ n

abbrev pub IsStart : Start → Phase → Place → NamedStart → Type 0
IsStart Root ph path root = Unit {0}
IsStart Root ph path (behind m j) = ⊥
IsStart (Behind depth child) ph path root = ⊥
IsStart (Behind depth child) ph path (behind m j) = (m ≡ take depth path) × (j ≡ child) × IsWithin ph depth (length path)

-- the procedure of a number
abbrev pub procedure_in : Tree → ℕ → Proc
procedure_in t p = found (slice_get (procedures t) p)

-- a fault by names
abbrev pub fault_in : Tree → Fault → NamedFault
fault_in t f = record { kind = f.kind; site = record { procedure = (procedure_in t f.procedure).called; statement = f.statement } }

module _ (setting : Setting) where
  abbrev pub procedure_at : ℕ → Proc
  procedure_at p = procedure_in setting.program.tree p

  abbrev pub named_fault : Fault → NamedFault
  named_fault f = fault_in setting.program.tree f

  -- ---- layers

  -- whether the lowest layer of a strand that begins there keeps what was read: around a thief's beginning a memo instance may be open
  abbrev pub base_keeps : Start → Bool
  base_keeps Root = false
  base_keeps (Behind depth child) = may_nest setting.codes

  -- each layer above others is a memo instance's, and keeps it
  abbrev pub IsKept : Start → List PlainLayer → Bool → Type 0
  IsKept st [] keeps = keeps ≡ base_keeps st
  IsKept st (m ∷ lower) keeps = keeps ≡ true

  -- a layer above those of a strand that begins there has noted as much, by numbers; what was read where it keeps that
  pub record IsNotes (st : Start) (lower : List PlainLayer) (l : PlainLayer) (n : Notes) : Type 0 where
    pub keeps : IsKept st lower l.keeps
    pub kinds : l.kinds ≡ map (λ r. r.kind) (reducers setting.program.tree)
    pub worths : n.worth ≡ l.worths
    pub each : length l.worths ≡ length l.kinds
    pub notes : l.keeps ≡ true → SameMembers (l.notes ++ l.shared) (map (numbered setting.names) n.read)
    pub entered : l.entered ≡ flagged (replicate (length (procedures setting.program.tree)) false)
        (map (procedure_number (procedures setting.program.tree)) n.entered)
    pub deepest : n.deepest ≡ l.deepest

  abbrev pub AreNotes : Start → List PlainLayer → List Notes → Type 0
  AreNotes st [] [] = Unit {0}
  AreNotes st (l ∷ ls) (n ∷ ns) = IsNotes st ls l n × AreNotes st ls ns
  AreNotes st _ _ = ⊥

  -- ---- what was counted and recorded

  -- a memo instance whose layer is open
  pub record IsOpened (o : PlainOpened) (k : Opened) : Type 0 where
    pub known : is_there (procedure_of setting.program.tree k.of) ≡ true
    pub procedure : o.procedure ≡ number_of setting.program.tree k.of
    pub arguments : o.arguments ≡ k.args
    pub left : o.left ≡ k.left
    pub depth : o.depth ≡ length k.instance

  abbrev pub AreOpened : List PlainOpened → List Opened → Type 0
  AreOpened [] [] = Unit {0}
  AreOpened (o ∷ os) (k ∷ ks) = IsOpened o k × AreOpened os ks
  AreOpened _ _ = ⊥

  pub record IsTally (t : PlainTally) (u : Tally) : Type 0 where
    pub opened : AreOpened t.opened u.opened
    pub made : AreRecords setting.program.tree setting.names setting.kinds u.made t.made
    pub executed : u.executed ≡ t.executed
    pub reused : u.reused ≡ t.reused
    pub unrecorded : u.unrecorded ≡ t.unrecorded

  -- ---- what an instance has left

  -- the rest of a block at a place that has so many blocks around it
  abbrev pub acts_at : ℕ → ℕ → Position → Acts
  acts_at p depth q = acts_from q.index (code_block (blocks_at setting.codes p) (length (blocks_at setting.codes p) - depth) q.block)

  -- at each place, innermost first, stands the code of that rest of a block
  abbrev pub AreBodies : ℕ → List Position → List Body → Type 0
  AreBodies p [] [] = Unit {0}
  AreBodies p (q ∷ qs) (b ∷ bs) = (linked_body setting.names setting.program.tree b ≡ acts_at p (length qs) q) × AreBodies p qs bs
  AreBodies p _ _ = ⊥

  -- a loop of a procedure, with those slots
  pub record IsJob (p : ℕ) (slots : List Slot) (l : Loop) (job : Job) : Type 0 where
    pub site : job.site ≡ record { procedure = (procedure_at p).called; statement = (loop_at setting.codes p l).number }
    pub env : job.env ≡ env_of slots
    pub variable : job.variable ≡ (loop_at setting.codes p l).variable
    pub callee : procedure_number (procedures setting.program.tree) job.callee ≡ (loop_at setting.codes p l).callee
    pub args : map (linked_term setting.names) job.args ≡ map expression (loop_at setting.codes p l).arguments
    pub grain : job.grain ≡ (loop_at setting.codes p l).grain
    pub low : job.low ≡ l.low

  abbrev pub IsTodoAt : PlainActivation → Work → Todo → Type 0
  IsTodoAt a (Block q) (blocks bs) = AreBodies a.procedure (q ∷ a.outer) bs
  IsTodoAt a Over (blocks []) = Unit {0}
  IsTodoAt a (Halves l k h) (halves m job count i) = IsJob a.procedure a.slots l job × (m ≡ k) × (count ≡ h.count) × (i ≡ h.first)
  IsTodoAt a (Second l k h) (second m job count i) = IsJob a.procedure a.slots l job × (m ≡ k) × (count ≡ h.count) × (i ≡ h.first)
  IsTodoAt a (Turns l h) (turns job count i) = IsJob a.procedure a.slots l job × (count ≡ h.count) × (i ≡ h.first)
  IsTodoAt a _ _ = ⊥

  -- what an instance has left
  abbrev pub IsTodo : PlainActivation → Todo → Type 0
  IsTodo a todo = IsTodoAt a a.work todo

  -- ---- instances

  -- a loop's instance has no names
  abbrev pub slots_by : Work → List Slot → List NamedSlot
  slots_by (Block q) slots = map meant slots
  slots_by Over slots = map meant slots
  slots_by _ slots = []

  -- an instance of that name, whose next child has that number
  abbrev pub frame_at : Place → ℕ → PlainActivation → Frame
  frame_at name next a = record {
    left = a.left;
    instance = name;
    next = next;
    here = (procedure_at a.procedure).called;
    env = slots_by a.work a.slots;
    recorded = false;
  }

  abbrev pub frame_of : Place → PlainActivation → Frame
  frame_of name a = frame_at name (suc a.children) a

  -- no slot of a loop's instance waits
  abbrev pub IsUnbound : Work → Option ℕ → Type 0
  IsUnbound (Block q) into = Unit {0}
  IsUnbound Over into = Unit {0}
  IsUnbound _ into = into ≡ None

  -- an instance that waits under the one of that name
  pub record IsParent (over : Place) (a : PlainActivation) (p : Parent) : Type 0 where
    pub named : over ≡ child_of (shorter over) a.children
    pub frame : p.frame ≡ frame_of (shorter over) a
    pub spawned : p.spawned ≡ a.spawned
    pub into : p.into ≡ a.into
    pub unbound : IsUnbound a.work a.into
    pub todo : IsTodo a p.todo

  -- those under the instance of that name
  abbrev pub AreParents : Place → List PlainActivation → List Parent → Type 0
  AreParents over [] [] = Unit {0}
  AreParents over (a ∷ below) (p ∷ under) = IsParent over a p × AreParents (shorter over) below under
  AreParents over _ _ = ⊥

  -- an instance of a procedure before its first statement
  pub record IsNewInstance (a : PlainActivation) (f : List ℕ) (vs : List ℤ) : Type 0 where
    pub procedure : procedure_number (procedures setting.program.tree) f ≡ a.procedure
    pub children : a.children ≡ 0
    pub work : a.work ≡ Block (first_of 0)
    pub outer : a.outer ≡ []
    pub slots : map meant a.slots ≡ map slot (fresh (proc_of setting.program.tree f).names vs)

  -- a memo instance has those arguments
  abbrev pub HasArguments : List ℤ → PlainActivation → List ℤ → Type 0
  HasArguments args a vs = memo_of setting.codes a.procedure ≡ true → args ≡ vs

  -- an instance is that of the child that is to be entered
  abbrev pub IsNew : List ℤ → PlainActivation → Child → Type 0
  IsNew args a (instance f vs) = IsNewInstance a f vs × HasArguments args a vs
  IsNew args a (half k job count i) = (a.children ≡ 0) × IsTodo a (halves k job count i)

  -- ---- strands, by what comes next

  pub record IsEntering (path : Place) (args : List ℤ) (top : PlainActivation) (below : List PlainActivation) (x : LayeredStrand) : Type 0 where
    pub child : Child
    pub new : IsNew args top child
    pub phase : x.phase ≡ entering child
    pub frame : x.frame ≡ frame_of path top
    pub under : AreParents path below x.under

  pub record IsRunning (path : Place) (top : PlainActivation) (below : List PlainActivation) (x : LayeredStrand) : Type 0 where
    pub todo : Todo
    pub left : IsTodo top todo
    pub phase : x.phase ≡ running todo
    pub frame : x.frame ≡ frame_of path top
    pub under : AreParents path below x.under

  -- the child's instance is already made, over the one that spawns
  pub record IsSpawning (path : Place) (args : List ℤ) (top parent : PlainActivation) (below : List PlainActivation) (x : LayeredStrand) : Type 0 where
    pub child : Child
    pub new : IsNew args top child
    pub todo : Todo
    pub left : IsTodo parent todo
    pub spawned : parent.spawned ≡ true
    pub unbound : IsUnbound parent.work parent.into
    pub named : path ≡ child_of (shorter path) parent.children
    pub phase : x.phase ≡ spawning top.left parent.into child todo
    pub frame : x.frame ≡ frame_at (shorter path) parent.children parent
    pub under : AreParents (shorter path) below x.under

  pub record IsAt (ph : NamedPhase) (path : Place) (top : PlainActivation) (below : List PlainActivation) (x : LayeredStrand) : Type 0 where
    pub phase : x.phase ≡ ph
    pub frame : x.frame ≡ frame_of path top
    pub under : AreParents path below x.under

  -- a strand with a fault does nothing more, and what its instances are doesn't matter
  abbrev pub StandsAt : Phase → List PlainActivation → PlainStrand → LayeredStrand → Type 0
  StandsAt Entering below s x = IsEntering s.path s.arguments s.top below x
  StandsAt Running below s x = IsRunning s.path s.top below x
  StandsAt AtSpawn [] s x = ⊥
  StandsAt AtSpawn (parent ∷ below) s x = IsSpawning s.path s.arguments s.top parent below x
  StandsAt (Returning v) below s x = IsAt (returning v) s.path s.top below x
  StandsAt (Leaving v) below s x = IsAt (leaving v) s.path s.top below x
  StandsAt (Broken f) below s x = x.phase ≡ broken (named_fault f)

  -- the strand of numbers stands for that strand of the definitions, whose instances have no flags, with that tally
  pub record StandsFor (s : PlainStrand) (x : LayeredStrand) (t : Tally) : Type 0 where
    pub start : IsStart s.start s.phase s.path x.start
    pub layers : AreNotes s.start (s.layer ∷ s.lower) x.layers
    pub tally : IsTally s.tally t
    pub now : StandsAt s.phase s.below s x

  -- the continuation of numbers stands for that continuation; since when its strand is there it doesn't know
  pub record StandsForTask (task : PlainTask) (k : Continuation) : Type 0 where
    pub child : k.child ≡ task.top.children
    pub parent : IsParent task.place task.top k.parent
    pub under : AreParents (shorter task.place) task.below k.under
