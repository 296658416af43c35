-- A small step keeps one layer more than there are open memo instances.
use Rattle.std.proofs.Common.{◌≡◌, ℕ, suc, ◌-◌, ◌==◌, ℤ, pos, Bool, true, false, ◌||◌, if◌then◌else◌, List, [], ◌∷◌, length, map, Option, Some, None, Result, Ok, Err, refl, ap, arith}
use Rattle.std.specs.Prelude.{nat_le, slice_get}
use Rattle.meaning.specs.declared.tree.Way.{Way}
use Rattle.meaning.specs.declared.tree.Way.TheVariants.{Call, Spawn}
use Rattle.monoid_laws.specs.declared.Kind.{Kind}
use Rattle.monoid_laws.specs.Kinds.{names_element}
use Rattle.meaning.specs.declared.FaultKind.{FaultKind}
use Rattle.linked_program.specs.declared.code.Operation.{Operation}
use Rattle.linked_program.specs.declared.code.Operation.TheVariants as o
use Rattle.linked_program.specs.declared.code.Instruction.{Instruction}
use Rattle.linked_program.specs.Linked.{Linked}
use Rattle.linked_program.specs.CodeView.{expression, slots_of, memo_of}
use Rattle.evaluation.specs.declared.slot.Slot.{Slot}
use Rattle.evaluation.specs.Slots.{slots_for}
use Rattle.evaluation.specs.Values.{NumberedOut, value_at, values_at, entry_at, bounds_at}
use Rattle.record_theory.specs.Record.{PlainRecord}
use Rattle.positions.specs.declared.work.Position.{Position}
use Rattle.positions.specs.declared.work.Loop.{Loop}
use Rattle.positions.specs.declared.work.Share.{Share}
use Rattle.positions.specs.declared.work.Work.{Work}
use Rattle.positions.specs.declared.work.Work.TheVariants.{Block, Over, Halves, Second, Turns}
use Rattle.positions.specs.declared.phase.Phase.{Phase}
use Rattle.positions.specs.declared.phase.Phase.TheVariants.{Entering, Running, AtSpawn, Returning, Leaving, Broken}
use Rattle.positions.specs.Setting.{Setting}
use Rattle.positions.specs.Activations.{PlainActivation, next_of}
use Rattle.positions.specs.Code.{instruction_inside, PlainLoop, loop_at}
use Rattle.positions.specs.Layers.{PlainLayer, below_top}
use Rattle.positions.specs.Tallies.{PlainOpened, PlainTally, closing_by}
use Rattle.positions.specs.Strands.{PlainStrand, is_entry, IsLayeredAt, IsLayered}
use Rattle.positions.specs.Advance.{noted, answered, evaluated, recalled, answer_for, started_as, started_by, pushed, child_of, with_arguments, entered, nested, nested_memo, called_as, binding, if_named, combining, choosing, looping, giving, split, turn_slots, rest_of, turn_by, left_to, closed, owns_top, synced, performed, gone_by, worked, advanced_at, advanced}
use Rattle.positions.specs.Simulation.{KeepsLayers}

-- one layer more than there are open ones
abbrev Counts : PlainStrand → Type 0
Counts s = length s.tally.opened ≡ length s.lower

layered_at : (ph : Phase) (s : PlainStrand) → Counts s → IsLayeredAt ph s
layered_at Entering s h = h
layered_at Running s h = h
layered_at AtSpawn s h = h
layered_at (Returning v) s h = h
layered_at (Leaving v) s h = h
layered_at (Broken f) s h = tt

answered_counts : {A : Type 0} (n : ℕ) (a : Result A FaultKind) (next : A → PlainStrand → PlainStrand) → ((v : A) (s : PlainStrand) → Counts s → Counts (next v s)) → (s : PlainStrand) → Counts s → Counts (answered n a next s)
answered_counts n (Ok v) next f s h = f v s h
answered_counts n (Err k) next f s h = h

evaluated_counts : {A : Type 0} (n : ℕ) (o : NumberedOut A) (next : A → PlainStrand → PlainStrand) → ((v : A) (s : PlainStrand) → Counts s → Counts (next v s)) → (s : PlainStrand) → Counts s → Counts (evaluated n o next s)
evaluated_counts n o next f s h = answered_counts n o.answer next f (noted o.notes s) h

closing_counts : (revisions : List (List ℕ × ℕ)) (os : List PlainOpened) (lower : List PlainLayer) (l : PlainLayer) (v : ℤ) (t : PlainTally) → t.opened ≡ os → length os ≡ length lower
    → length (closing_by revisions os l v t).opened ≡ length (below_top lower)
closing_counts revisions [] [] l v t e h = ap length e
closing_counts revisions [] (m ∷ lower) l v t e h = absurd (omega arith)
closing_counts revisions (o ∷ os) [] l v t e h = absurd (omega arith)
closing_counts revisions (o ∷ os) (m ∷ lower) l v t e h = let q : length os ≡ length lower = omega arith in q

either_counts : (b : Bool) (s u : PlainStrand) → Counts s → Counts u → Counts (if b then s else u)
either_counts true s u h i = h
either_counts false s u h i = i

left_counts : (below : List PlainActivation) (v : ℤ) (s : PlainStrand) → Counts s → Counts (left_to below v s)
left_counts [] v s h = h
left_counts (p ∷ rest) v s h = h

if_named_counts : (b : Bool) (n : ℕ) (p : Position) (r : ℕ) (kind : Kind) (vs : List ℤ) (s : PlainStrand) → Counts s → Counts (if_named b n p r kind vs s)
if_named_counts true n p r kind vs s h = h
if_named_counts false n p r kind vs s h = h

combining_counts : (kind : Option Kind) (n : ℕ) (p : Position) (r : ℕ) (vs : List ℤ) (s : PlainStrand) → Counts s → Counts (combining kind n p r vs s)
combining_counts None n p r vs s h = h
combining_counts (Some kind) n p r vs s h = if_named_counts (names_element kind vs) n p r kind vs s h

module _ (setting : Setting) where
  recalled_counts : (kit : Bool) (r : Option PlainRecord) (s : PlainStrand) → Counts s → Counts (recalled setting kit r s)
  recalled_counts kit (Some r) s h = h
  recalled_counts true None s h = ap suc h
  recalled_counts false None s h = h

  started_as_counts : (kit memo : Bool) (s : PlainStrand) → Counts s → Counts (started_as setting kit memo s)
  started_as_counts kit true s h = recalled_counts kit (answer_for setting s) s h
  started_as_counts kit false s h = h

  started_counts : (kit : Bool) (w : Work) (s : PlainStrand) → Counts s → Counts (started_by setting kit w s)
  started_counts kit (Block p) s h = started_as_counts kit (memo_of setting.codes s.top.procedure) s h
  started_counts kit Over s h = h
  started_counts kit (Halves l k share) s h = h
  started_counts kit (Second l k share) s h = h
  started_counts kit (Turns l share) s h = h

  synced_counts : (v : ℤ) (s : PlainStrand) → Counts s → Counts (synced setting v s)
  synced_counts v s h =
      either_counts (is_entry s) s _ h (either_counts (owns_top s) (closed setting v s) _ (closing_counts setting.program.revisions s.tally.opened s.lower s.layer v s.tally refl h) h)

  module _ (kit : Bool) where
    entered_counts : (way : Way) (into : Option ℕ) (w : Work) (f : ℕ) (slots : List Slot) (s : PlainStrand) → Counts s → Counts (entered setting kit way into w f slots s)
    entered_counts Call into w f slots s h = started_counts kit (child_of f slots s).work (pushed (child_of f slots s) false into w Entering s) h
    entered_counts Spawn into w f slots s h = h

    nested_counts : (n : ℕ) (way : Way) (into : Option ℕ) (w : Work) (f : ℕ) (slots : List Slot) (s : PlainStrand) → Counts s → Counts (nested setting kit n way into w f slots s)
    nested_counts n way into w f slots s h = either_counts (s.top.left == 0) _ (entered setting kit way into w f slots s) h (entered_counts way into w f slots s h)

    called_as_counts : (memo : Bool) (n : ℕ) (way : Way) (into : Option ℕ) (w : Work) (f : ℕ) (es : List Linked) (slots : List Slot) (s : PlainStrand) → Counts s → Counts (called_as setting kit memo n way into w f es slots s)
    called_as_counts true n way into w f es slots s h =
        evaluated_counts n (values_at setting.tables slots es) (nested_memo setting kit n way into w f) (λ vs u i. nested_counts n way into w f (slots_for (slots_of setting.codes f) vs) (with_arguments vs u) i) s h
    called_as_counts false n way into w f es slots s h =
        evaluated_counts n (entry_at setting.tables slots (slots_of setting.codes f) es) (nested setting kit n way into w f) (λ vs u i. nested_counts n way into w f vs u i) s h

    performed_counts : (p : Position) (n : ℕ) (op : Operation) (s : PlainStrand) → Counts s → Counts (performed setting kit p n op s)
    performed_counts p n (o.Bind x e) s h = evaluated_counts n (value_at setting.tables s.top.slots (expression e)) (binding p x) (λ v u i. i) s h
    performed_counts p n (o.Enter x way f es) s h = called_as_counts (memo_of setting.codes f) n way x (Block (next_of p)) f (map expression es.items) s.top.slots s h
    performed_counts p n (o.Read x r) s h = h
    performed_counts p n o.Sync s h = either_counts (is_entry s) s _ h h
    performed_counts p n (o.Update r es) s h =
        evaluated_counts n (values_at setting.tables s.top.slots (map expression es.items)) (combining (slice_get setting.kinds r) n p r) (λ vs u i. combining_counts (slice_get setting.kinds r) n p r vs u i) s h
    performed_counts p n (o.If e a b) s h = evaluated_counts n (value_at setting.tables s.top.slots (expression e)) (choosing p a b) (λ v u i. i) s h
    performed_counts p n (o.Loop x low high grain f es) s h = evaluated_counts n (bounds_at setting.tables s.top.slots (expression low) (expression high)) (looping p) (λ r u i. i) s h
    performed_counts p n (o.Return e) s h = evaluated_counts n (value_at setting.tables s.top.slots (expression e)) giving (λ v u i. i) s h

    gone_counts : (p : Position) (i : Option Instruction) (s : PlainStrand) → Counts s → Counts (gone_by setting kit p i s)
    gone_counts p None s h = h
    gone_counts p (Some i) s h = performed_counts p i.number i.operation s h

    turn_counts : (j : PlainLoop) (l : Loop) (share : Share) (s : PlainStrand) → Counts s → Counts (turn_by setting kit j l share s)
    turn_counts j l share s h = called_as_counts (memo_of setting.codes j.callee) j.number Call None (Turns l (rest_of share)) j.callee (map expression j.arguments) (turn_slots j l share s) s h

    worked_counts : (w : Work) (s : PlainStrand) → Counts s → Counts (worked setting kit w s)
    worked_counts (Block p) s h = gone_counts p (instruction_inside setting.codes s.top.procedure (length s.top.outer) p) s h
    worked_counts Over s h = h
    worked_counts (Halves l k share) s h = either_counts (k == 0 || nat_le share.count (loop_at setting.codes s.top.procedure l).grain) _ (split l (k - 1) share s) h h
    worked_counts (Second l k share) s h = h
    worked_counts (Turns l share) s h = either_counts (share.count == 0) (giving (pos 0) s) _ h (turn_counts (loop_at setting.codes s.top.procedure l) l share s h)

    advanced_counts : (ph : Phase) (s : PlainStrand) → s.phase ≡ ph → IsLayeredAt ph s → IsLayered (advanced_at setting kit ph s)
    advanced_counts Entering s e h = (let u = started_by setting kit s.top.work s in layered_at u.phase u (started_counts kit s.top.work s h))
    advanced_counts Running s e h = (let u = worked setting kit s.top.work s in layered_at u.phase u (worked_counts s.top.work s h))
    advanced_counts AtSpawn s e h = layered_at s.phase s h
    advanced_counts (Returning v) s e h = (let u = synced setting v s in layered_at u.phase u (synced_counts v s h))
    advanced_counts (Leaving v) s e h = (let u = left_to s.below v s in layered_at u.phase u (left_counts s.below v s h))
    advanced_counts (Broken f) s e h = rw e tt

    pub layers_kept : (s : PlainStrand) → KeepsLayers s (advanced setting kit s)
    layers_kept s h = advanced_counts s.phase s refl h
