-- One small step of a strand, by numbers.
use Rattle.std.specs.Prelude.{ℕ, zero, suc, ◌+◌, ◌-◌, ◌/◌, nat_le, ℤ, pos, ◌+ℤ◌, Bool, true, false, ◌||◌, ◌&&◌, if◌then◌else◌, ◌==◌, List}
use Rattle.std.specs.Prelude.{[], ◌∷◌, ◌++◌, map, length, Option, Some, None, Result, Ok, Err, slice_get, slice_set}
use Rattle.std.specs.Ordering.{int_eq}
use Rattle.meaning.specs.declared.tree.Way.{Way}
use Rattle.meaning.specs.declared.tree.Way.TheVariants.{Call, Spawn}
use Rattle.monoid_laws.specs.declared.Kind.{Kind}
use Rattle.monoid_laws.specs.Kinds.{names_element}
use Rattle.meaning.specs.declared.FaultKind.{FaultKind}
use Rattle.meaning.specs.declared.FaultKind.TheVariants.{TooDeep, BadElement}
use Rattle.meaning.specs.Statements.{number_of}
use Rattle.meaning.specs.Elision.{depth_limit}
use Rattle.meaning.specs.Trail.{most_halvings}
use Rattle.linked_program.specs.declared.code.Operation.{Operation}
use Rattle.linked_program.specs.declared.code.Operation.TheVariants as o
use Rattle.linked_program.specs.declared.code.Instruction.{Instruction}
use Rattle.linked_program.specs.declared.code.Code.{Code}
use Rattle.linked_program.specs.Linked.{Linked}
use Rattle.linked_program.specs.CodeView.{expression, slots_of, memo_of}
use Rattle.evaluation.specs.declared.note.Note.{Note}
use Rattle.evaluation.specs.declared.slot.Slot.{Slot}
use Rattle.evaluation.specs.declared.slot.Slot.TheVariants.{Has}
use Rattle.evaluation.specs.Slots.{slots_for}
use Rattle.evaluation.specs.Values.{NumberedOut, value_at, values_at, entry_at, bounds_at}
use Rattle.record_theory.specs.Record.{PlainRecord}
use Rattle.record_theory.specs.Validity.{valid_at}
use Rattle.positions.specs.declared.work.Position.{Position}
use Rattle.positions.specs.declared.work.Loop.{Loop}
use Rattle.positions.specs.declared.work.Share.{Share}
use Rattle.positions.specs.declared.work.Work.{Work}
use Rattle.positions.specs.declared.work.Work.TheVariants.{Block, Over, Halves, Second, Turns}
use Rattle.positions.specs.declared.phase.Phase.{Phase}
use Rattle.positions.specs.declared.phase.Phase.TheVariants.{Entering, Running, AtSpawn, Returning, Leaving, Broken}
use Rattle.positions.specs.declared.phase.Paused.{Paused}
use Rattle.positions.specs.declared.phase.Paused.TheVariants as paused
use Rattle.positions.specs.Setting.{Setting}
use Rattle.positions.specs.Activations.{PlainActivation, bound, at, next_of, waiting, made, first_of, inside, outside}
use Rattle.positions.specs.Code.{instruction_inside, PlainLoop, loop_at}
use Rattle.positions.specs.Layers.{PlainLayer, noting, entering, updating, lowest, blank, absorbing, closed_onto, below_top}
use Rattle.positions.specs.Tallies.{PlainOpened, is_own, closing}
use Rattle.positions.specs.Tallies as tallies
use Rattle.positions.specs.Strands.{PlainStrand, shorter, is_entry}

-- ---- pieces of steps

abbrev pub with_top : PlainActivation → PlainStrand → PlainStrand
with_top a s = record s { top = a }

abbrev pub in_phase : Phase → PlainStrand → PlainStrand
in_phase ph s = record s { phase = ph }

-- after these readings
abbrev pub noted : List Note → PlainStrand → PlainStrand
noted ns s = record s { layer = noting ns s.layer }

-- a fault at that statement
abbrev pub faulted : ℕ → FaultKind → PlainStrand → PlainStrand
faulted n k s = record s { phase = Broken (record { kind = k; procedure = s.top.procedure; statement = n }) }

abbrev pub answered : {A : Type 0} → ℕ → Result A FaultKind → (A → PlainStrand → PlainStrand) → PlainStrand → PlainStrand
answered n (Ok v) next s = next v s
answered n (Err k) next s = faulted n k s

-- an evaluation at that statement, and then the rest
abbrev pub evaluated : {A : Type 0} → ℕ → NumberedOut A → (A → PlainStrand → PlainStrand) → PlainStrand → PlainStrand
evaluated n o next s = answered n o.answer next (noted o.notes s)

-- ---- entering

-- how many instances the topmost one is nested in, itself counted
abbrev pub depth_of : PlainStrand → ℕ
depth_of s = depth_limit - s.top.left

-- the topmost instance is entered, and its procedure noted in the topmost layer
abbrev pub begun : PlainStrand → PlainStrand
begun s = record s { layer = entering s.top.procedure (depth_of s) s.layer; phase = Running }

-- a record answers the topmost instance: it is over, and what the record has is taken over
abbrev pub reused : PlainRecord → PlainStrand → PlainStrand
reused r s = record s { layer = absorbing r (depth_of s) s.layer; phase = Leaving r.value; tally = tallies.answering s.tally }

-- the topmost instance without a layer of its own
abbrev pub passed : PlainStrand → PlainStrand
passed s = record (begun s) { tally = tallies.passing s.tally }

-- what is kept of an instance whose layer is opened
abbrev pub opened_of : PlainStrand → PlainOpened
opened_of s = record { procedure = s.top.procedure; arguments = s.arguments; left = s.top.left; depth = length s.path }

module _ (setting : Setting) where
  -- the topmost instance with a layer of its own
  abbrev pub opened : PlainStrand → PlainStrand
  opened s =
      begun (record s { layer = blank true setting.kinds (length setting.codes); lower = s.layer ∷ s.lower; tally = tallies.opening (opened_of s) s.tally })

  -- the record of a procedure and arguments that is valid at a depth; main's is 1
  abbrev pub record_for : ℕ → ℕ → List ℤ → Option PlainRecord
  record_for zero procedure arguments = None
  record_for (suc d) procedure arguments = valid_at setting.program.revisions setting.tables (suc d) setting.records procedure arguments

  -- the record that answers the topmost instance
  abbrev pub answer_for : PlainStrand → Option PlainRecord
  answer_for s = record_for (depth_of s) s.top.procedure s.arguments

  -- a memo instance, and whether a kit is free
  abbrev pub recalled : Bool → Option PlainRecord → PlainStrand → PlainStrand
  recalled kit (Some r) s = reused r s
  recalled true None s = opened s
  recalled false None s = passed s

  abbrev pub started_as : Bool → Bool → PlainStrand → PlainStrand
  started_as kit true s = recalled kit (answer_for s) s
  started_as kit false s = begun s

  abbrev pub started_by : Bool → Work → PlainStrand → PlainStrand
  started_by kit (Block p) s = started_as kit (memo_of setting.codes s.top.procedure) s
  started_by kit _ s = record s { phase = Running }

  -- the topmost instance is entered, where it is said whether a kit is free
  abbrev pub started : Bool → PlainStrand → PlainStrand
  started kit s = started_by kit s.top.work s

-- ---- children

-- the child on top of its parent, which has that left to do
abbrev pub pushed : PlainActivation → Bool → Option ℕ → Work → Phase → PlainStrand → PlainStrand
pushed child spawned into w ph s = record s {
  path = s.path ++ (s.top.children + 1) ∷ [];
  top = child;
  below = waiting spawned into w s.top ∷ s.below;
  phase = ph;
}

-- an instance of a procedure that begins under the topmost one
abbrev pub child_of : ℕ → List Slot → PlainStrand → PlainActivation
child_of f slots s = made f slots (Block (first_of 0)) (s.top.left - 1)

abbrev pub with_arguments : List ℤ → PlainStrand → PlainStrand
with_arguments vs s = record s { arguments = vs }

module _ (setting : Setting) (kit : Bool) where
  -- a child of that procedure is called or spawned
  abbrev pub entered : Way → Option ℕ → Work → ℕ → List Slot → PlainStrand → PlainStrand
  entered Call into w f slots s = started setting kit (pushed (child_of f slots s) false into w Entering s)
  entered Spawn into w f slots s = pushed (child_of f slots s) true into w AtSpawn s

  -- where the depth allows it
  abbrev pub nested : ℕ → Way → Option ℕ → Work → ℕ → List Slot → PlainStrand → PlainStrand
  nested n way into w f slots s = (if s.top.left == 0 then faulted n TooDeep s else entered way into w f slots s)

  -- a memo instance keeps its arguments, by which records are looked up
  abbrev pub nested_memo : ℕ → Way → Option ℕ → Work → ℕ → List ℤ → PlainStrand → PlainStrand
  nested_memo n way into w f vs s = nested n way into w f (slots_for (slots_of setting.codes f) vs) (with_arguments vs s)

  -- a child whose arguments are evaluated over those slots
  abbrev pub called_as : Bool → ℕ → Way → Option ℕ → Work → ℕ → List Linked → List Slot → PlainStrand → PlainStrand
  called_as true n way into w f es slots s = evaluated n (values_at setting.tables slots es) (nested_memo n way into w f) s
  called_as false n way into w f es slots s = evaluated n (entry_at setting.tables slots (slots_of setting.codes f) es) (nested n way into w f) s

  abbrev pub called : ℕ → Way → Option ℕ → Work → ℕ → List Linked → List Slot → PlainStrand → PlainStrand
  called n way into w f es slots s = called_as (memo_of setting.codes f) n way into w f es slots s

-- ---- statements

abbrev pub moved_on : Position → PlainStrand → PlainStrand
moved_on p s = with_top (at (Block (next_of p)) s.top) s

abbrev pub binding : Position → ℕ → ℤ → PlainStrand → PlainStrand
binding p x v s = with_top (at (Block (next_of p)) (bound (Some x) (Has v) s.top)) s

-- the number of a reducer's value in the lowest layer
abbrev pub reading : ℕ → PlainStrand → ℤ
reading r s = number_of (slice_get (lowest s.layer s.lower).worths r)

abbrev pub if_named : Bool → ℕ → Position → ℕ → Kind → List ℤ → PlainStrand → PlainStrand
if_named false n p r kind vs s = faulted n BadElement s
if_named true n p r kind vs s = moved_on p (record s { layer = updating r kind vs s.layer })

-- the update of a reducer of that kind, where there is one
abbrev pub combining : Option Kind → ℕ → Position → ℕ → List ℤ → PlainStrand → PlainStrand
combining None n p r vs s = moved_on p s
combining (Some kind) n p r vs s = if_named (names_element kind vs) n p r kind vs s

abbrev pub choosing : Position → ℕ → ℕ → ℤ → PlainStrand → PlainStrand
choosing p a b v s = with_top (inside (if int_eq v (pos 0) then b else a) p s.top) s

-- a loop's instance over so many numbers
abbrev pub looping : Position → ℤ × ℕ → PlainStrand → PlainStrand
looping p range s =
    pushed (made s.top.procedure s.top.slots
    (Halves (record { block = p.block; index = p.index; low = range.0 }) most_halvings (record { first = 0; count = range.1 }))
    s.top.left)
    false None (Block (next_of p)) Running s

abbrev pub giving : ℤ → PlainStrand → PlainStrand
giving v s = in_phase (Returning v) s

-- ---- loops

abbrev pub left_of : Share → Share
left_of h = record { first = h.first; count = h.count / 2 }

abbrev pub right_of : Share → Share
right_of h = record { first = h.first + h.count / 2; count = h.count - h.count / 2 }

abbrev pub rest_of : Share → Share
rest_of h = record { first = h.first + 1; count = h.count - 1 }

-- the first half is spawned
abbrev pub split : Loop → ℕ → Share → PlainStrand → PlainStrand
split l k h s = pushed (made s.top.procedure s.top.slots (Halves l k (left_of h)) s.top.left) true None (Second l k (right_of h)) AtSpawn s

-- the second half is called with the loop's slots, which the instance needs no more
abbrev pub second_half : Loop → ℕ → Share → PlainStrand → PlainStrand
second_half l k h s = pushed (made s.top.procedure s.top.slots (Halves l k h) s.top.left) false None Over Running (with_top (record s.top { slots = [] }) s)

-- so many iterations are halved where they are more than the grain and may be halved
abbrev pub halved : List Code → Loop → ℕ → Share → PlainStrand → PlainStrand
halved codes l k h s = (if k == 0 || nat_le h.count (loop_at codes s.top.procedure l).grain then with_top (at (Turns l h) s.top) s else split l (k - 1) h s)

-- the slots that an iteration's arguments are evaluated over
abbrev pub turn_slots : PlainLoop → Loop → Share → PlainStrand → List Slot
turn_slots j l h s = slice_set s.top.slots j.variable (Has (l.low +ℤ pos h.first))

abbrev pub turn_by : Setting → Bool → PlainLoop → Loop → Share → PlainStrand → PlainStrand
turn_by setting kit j l h s = called setting kit j.number Call None (Turns l (rest_of h)) j.callee (map expression j.arguments) (turn_slots j l h s) s

-- the next iteration, or the end
abbrev pub turned : Setting → Bool → Loop → Share → PlainStrand → PlainStrand
turned setting kit l h s = (if h.count == 0 then giving (pos 0) s else turn_by setting kit (loop_at setting.codes s.top.procedure l) l h s)

-- ---- the ends of instances

-- the value goes into the slot that waits for it
abbrev pub left_to : List PlainActivation → ℤ → PlainStrand → PlainStrand
left_to [] v s = s
left_to (p ∷ rest) v s = record s { path = shorter s.path; top = bound p.into (Has v) p; below = rest; phase = Running }

-- the topmost layer becomes a record and goes into the one below it
abbrev pub closed : Setting → ℤ → PlainStrand → PlainStrand
closed setting v s = record s {
  layer = closed_onto s.layer s.lower;
  lower = below_top s.lower;
  phase = Leaving v;
  tally = closing setting.program.revisions s.layer v s.tally;
}

-- the topmost layer is the topmost instance's
abbrev pub owns_top : PlainStrand → Bool
owns_top s = is_own s.tally.opened (length s.path)

-- the implicit sync, which isn't passed in the instance in which the strand begins; its own layer is closed there
abbrev pub synced : Setting → ℤ → PlainStrand → PlainStrand
synced setting v s = (if is_entry s then s else if owns_top s then closed setting v s else in_phase (Leaving v) s)

-- the topmost instance's next statement; none where a block ends, or in a loop
abbrev pub statement_by : List Code → Work → PlainActivation → Option Instruction
statement_by codes (Block p) a = instruction_inside codes a.procedure (length a.outer) p
statement_by codes _ a = None

abbrev pub next_statement : List Code → PlainStrand → Option Instruction
next_statement codes s = statement_by codes s.top.work s.top

-- ---- the step

module _ (setting : Setting) (kit : Bool) where
  abbrev pub performed : Position → ℕ → Operation → PlainStrand → PlainStrand
  performed p n (o.Bind x e) s = evaluated n (value_at setting.tables s.top.slots (expression e)) (binding p x) s
  performed p n (o.Enter x way f es) s = called setting kit n way x (Block (next_of p)) f (map expression es.items) s.top.slots s
  performed p n (o.Read x r) s = binding p x (reading r s) s
  performed p n o.Sync s = (if is_entry s then s else moved_on p s)
  performed p n (o.Update r es) s = evaluated n (values_at setting.tables s.top.slots (map expression es.items)) (combining (slice_get setting.kinds r) n p r) s
  performed p n (o.If e a b) s = evaluated n (value_at setting.tables s.top.slots (expression e)) (choosing p a b) s
  performed p n (o.Loop x low high grain f es) s = evaluated n (bounds_at setting.tables s.top.slots (expression low) (expression high)) (looping p) s
  performed p n (o.Return e) s = evaluated n (value_at setting.tables s.top.slots (expression e)) giving s

  -- the statement at that place, or the block's end
  abbrev pub gone_by : Position → Option Instruction → PlainStrand → PlainStrand
  gone_by p None s = with_top (outside s.top) s
  gone_by p (Some i) s = performed p i.number i.operation s

  abbrev pub gone : Position → PlainStrand → PlainStrand
  gone p s = gone_by p (instruction_inside setting.codes s.top.procedure (length s.top.outer) p) s

  abbrev pub worked : Work → PlainStrand → PlainStrand
  worked (Block p) s = gone p s
  worked Over s = giving (pos 0) s
  worked (Halves l k h) s = halved setting.codes l k h s
  worked (Second l k h) s = second_half l k h s
  worked (Turns l h) s = turned setting kit l h s

  abbrev pub advanced_at : Phase → PlainStrand → PlainStrand
  advanced_at Entering s = started setting kit s
  advanced_at Running s = worked s.top.work s
  advanced_at AtSpawn s = s
  advanced_at (Returning v) s = synced setting v s
  advanced_at (Leaving v) s = left_to s.below v s
  advanced_at (Broken f) s = s

  -- one small step, where there is one and where it is said whether a kit is free
  abbrev pub advanced : PlainStrand → PlainStrand
  advanced s = advanced_at s.phase s

-- ---- where there is none

abbrev pub sync_pause : Bool → Paused
sync_pause true = paused.AtSync
sync_pause false = paused.Working

abbrev pub is_sync_as : Operation → Bool
is_sync_as o.Sync = true
is_sync_as _ = false

abbrev pub is_sync : Option Instruction → Bool
is_sync None = false
is_sync (Some i) = is_sync_as i.operation

-- the instance that leaves is main, or a child that was spawned
abbrev pub bottom_pause : List ℕ → Paused
bottom_pause [] = paused.Finished
bottom_pause (k ∷ n) = paused.Returned

abbrev pub leaving_pause : List PlainActivation → List ℕ → Paused
leaving_pause [] path = bottom_pause path
leaving_pause (p ∷ rest) path = paused.Working

abbrev pub pause_at : List Code → Phase → PlainStrand → Paused
pause_at codes Entering s = paused.Working
pause_at codes Running s = sync_pause (is_entry s && is_sync (next_statement codes s))
pause_at codes AtSpawn s = paused.AtSpawn
pause_at codes (Returning v) s = sync_pause (is_entry s)
pause_at codes (Leaving v) s = leaving_pause s.below s.path
pause_at codes (Broken f) s = paused.Faulted

-- the point at which a strand is, or that it can go on
abbrev pub pause_of : List Code → PlainStrand → Paused
pause_of codes s = pause_at codes s.phase s

-- ---- kits

-- so many free kits after a step: a layer that opens takes one, one that closes gives it back
abbrev pub kits_then : List PlainLayer → List PlainLayer → ℕ → ℕ
kits_then old new kits = kits + length old - length new
