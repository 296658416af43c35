-- What a small step keeps of a strand's layers and records: what an opened and a closed layer keep, each step does.
use Rattle.std.proofs.Common.{◌≡◌, ℕ, ◌-◌, Bool, true, false, if◌then◌else◌, ◌==◌, ◌||◌, ℤ, List, [], ◌∷◌, length, All, map, Option, Some, None, Result, Ok, Err, refl, pos, slice_get, arith}
use Rattle.std.specs.Prelude.{nat_le}
use Rattle.std.proofs.lemmas.List.Elements.{All-cons, All-tail}
use Rattle.meaning.specs.declared.tree.Way.{Way}
use Rattle.meaning.specs.declared.tree.Way.TheVariants.{Call, Spawn}
use Rattle.monoid_laws.specs.declared.Kind.{Kind}
use Rattle.monoid_laws.specs.Kinds.{names_element}
use Rattle.meaning.specs.declared.FaultKind.{FaultKind}
use Rattle.linked_program.specs.declared.code.Operation.{Operation}
use Rattle.linked_program.specs.declared.code.Operation.TheVariants as o
use Rattle.linked_program.specs.declared.code.Instruction.{Instruction}
use Rattle.linked_program.specs.Linked.{Linked}
use Rattle.linked_program.specs.CodeView.{expression, slots_of, memo_of}
use Rattle.evaluation.specs.declared.slot.Slot.{Slot}
use Rattle.evaluation.specs.Slots.{slots_for}
use Rattle.evaluation.specs.Values.{NumberedOut, value_at, values_at, entry_at, bounds_at}
use Rattle.record_theory.specs.Record.{PlainRecord}
use Rattle.positions.specs.declared.work.Position.{Position}
use Rattle.positions.specs.declared.work.Loop.{Loop}
use Rattle.positions.specs.declared.work.Share.{Share}
use Rattle.positions.specs.declared.work.Work.{Work}
use Rattle.positions.specs.declared.work.Work.TheVariants.{Block, Over, Halves, Second, Turns}
use Rattle.positions.specs.declared.phase.Phase.{Phase}
use Rattle.positions.specs.declared.phase.Phase.TheVariants.{Entering, Running, AtSpawn, Returning, Leaving, Broken}
use Rattle.positions.specs.Setting.{Setting}
use Rattle.positions.specs.Activations.{PlainActivation, next_of}
use Rattle.positions.specs.Code.{instruction_inside, PlainLoop, loop_at}
use Rattle.positions.specs.Layers.{PlainLayer, closed_onto, below_top}
use Rattle.positions.specs.Strands.{PlainStrand, is_entry}
use Rattle.positions.specs.Advance.{noted, answered, evaluated, recalled, answer_for, started_as, started_by, started, pushed, child_of, with_arguments, entered, nested, nested_memo, called_as, called, binding, moved_on, if_named, combining, choosing, looping, giving, split, turn_slots, rest_of, turn_by, left_to, opened, closed, owns_top, synced, performed, gone_by, gone, worked, advanced_at, advanced}

either_is : (P : PlainStrand → Type 0) (b : Bool) (s t : PlainStrand) → P s → P t → P (if b then s else t)
either_is P true s t h k = h
either_is P false s t h k = k

-- a fact of the topmost layer's kinds, the layers below, and the records made
module _ (P : List Kind → List PlainLayer → List PlainRecord → Type 0) where
  abbrev Holds : PlainStrand → Type 0
  Holds s = P s.layer.kinds s.lower s.tally.made

  answered_keeps : {A : Type 0} (n : ℕ) (r : Result A FaultKind) (next : A → PlainStrand → PlainStrand) → ((v : A) (t : PlainStrand) → Holds t → Holds (next v t)) → (s : PlainStrand) → Holds s → Holds (answered n r next s)
  answered_keeps n (Ok v) next f s h = f v s h
  answered_keeps n (Err k) next f s h = h

  pub evaluated_keeps : {A : Type 0} (n : ℕ) (out : NumberedOut A) (next : A → PlainStrand → PlainStrand) → ((v : A) (t : PlainStrand) → Holds t → Holds (next v t)) → (s : PlainStrand) → Holds s
      → Holds (evaluated n out next s)
  evaluated_keeps n out next f s h = answered_keeps n out.answer next f (noted out.notes s) h

  named_keeps : (b : Bool) (n : ℕ) (p : Position) (r : ℕ) (kind : Kind) (vs : List ℤ) (s : PlainStrand) → Holds s → Holds (if_named b n p r kind vs s)
  named_keeps true n p r kind vs s h = h
  named_keeps false n p r kind vs s h = h

  pub combining_keeps : (kind : Option Kind) (n : ℕ) (p : Position) (r : ℕ) (vs : List ℤ) (s : PlainStrand) → Holds s → Holds (combining kind n p r vs s)
  combining_keeps None n p r vs s h = h
  combining_keeps (Some kind) n p r vs s h = named_keeps (names_element kind vs) n p r kind vs s h

  pub left_keeps : (below : List PlainActivation) (v : ℤ) (s : PlainStrand) → Holds s → Holds (left_to below v s)
  left_keeps [] v s h = h
  left_keeps (p ∷ rest) v s h = h

  module _ (setting : Setting) (opens : (s : PlainStrand) → Holds s → Holds (opened setting s)) where
    recalled_keeps : (kit : Bool) (r : Option PlainRecord) (s : PlainStrand) → Holds s → Holds (recalled setting kit r s)
    recalled_keeps kit (Some r) s h = h
    recalled_keeps true None s h = opens s h
    recalled_keeps false None s h = h

    started_as_keeps : (kit memo : Bool) (s : PlainStrand) → Holds s → Holds (started_as setting kit memo s)
    started_as_keeps kit true s h = recalled_keeps kit (answer_for setting s) s h
    started_as_keeps kit false s h = h

    started_by_keeps : (kit : Bool) (w : Work) (s : PlainStrand) → Holds s → Holds (started_by setting kit w s)
    started_by_keeps kit (Block p) s h = started_as_keeps kit (memo_of setting.codes s.top.procedure) s h
    started_by_keeps kit Over s h = h
    started_by_keeps kit (Halves l k share) s h = h
    started_by_keeps kit (Second l k share) s h = h
    started_by_keeps kit (Turns l share) s h = h

    module _ (kit : Bool) where
      pub started_keeps : (s : PlainStrand) → Holds s → Holds (started setting kit s)
      started_keeps s h = started_by_keeps kit s.top.work s h

      entered_keeps : (way : Way) (into : Option ℕ) (w : Work) (f : ℕ) (slots : List Slot) (s : PlainStrand) → Holds s → Holds (entered setting kit way into w f slots s)
      entered_keeps Call into w f slots s h = started_keeps (pushed (child_of f slots s) false into w Entering s) h
      entered_keeps Spawn into w f slots s h = h

      nested_keeps : (n : ℕ) (way : Way) (into : Option ℕ) (w : Work) (f : ℕ) (slots : List Slot) (s : PlainStrand) → Holds s → Holds (nested setting kit n way into w f slots s)
      nested_keeps n way into w f slots s h = either_is Holds (s.top.left == 0) _ (entered setting kit way into w f slots s) h (entered_keeps way into w f slots s h)

      called_as_keeps : (memo : Bool) (n : ℕ) (way : Way) (into : Option ℕ) (w : Work) (f : ℕ) (es : List Linked) (slots : List Slot) (s : PlainStrand) → Holds s
          → Holds (called_as setting kit memo n way into w f es slots s)
      called_as_keeps true n way into w f es slots s h =
          evaluated_keeps n (values_at setting.tables slots es) (nested_memo setting kit n way into w f) (λ vs u i. nested_keeps n way into w f (slots_for (slots_of setting.codes f) vs) (with_arguments vs u) i) s h
      called_as_keeps false n way into w f es slots s h =
          evaluated_keeps n (entry_at setting.tables slots (slots_of setting.codes f) es) (nested setting kit n way into w f) (λ vs u i. nested_keeps n way into w f vs u i) s h

      pub called_keeps : (n : ℕ) (way : Way) (into : Option ℕ) (w : Work) (f : ℕ) (es : List Linked) (slots : List Slot) (s : PlainStrand) → Holds s → Holds (called setting kit n way into w f es slots s)
      called_keeps n way into w f es slots s h = called_as_keeps (memo_of setting.codes f) n way into w f es slots s h

      pub performed_keeps : (p : Position) (n : ℕ) (op : Operation) (s : PlainStrand) → Holds s → Holds (performed setting kit p n op s)
      performed_keeps p n (o.Bind x e) s h = evaluated_keeps n (value_at setting.tables s.top.slots (expression e)) (binding p x) (λ v u i. i) s h
      performed_keeps p n (o.Enter x way f es) s h = called_keeps n way x (Block (next_of p)) f (map expression es.items) s.top.slots s h
      performed_keeps p n (o.Read x r) s h = h
      performed_keeps p n o.Sync s h = either_is Holds (is_entry s) s (moved_on p s) h h
      performed_keeps p n (o.Update r es) s h =
          evaluated_keeps n (values_at setting.tables s.top.slots (map expression es.items)) (combining (slice_get setting.kinds r) n p r) (λ vs u i. combining_keeps (slice_get setting.kinds r) n p r vs u i) s h
      performed_keeps p n (o.If e a b) s h = evaluated_keeps n (value_at setting.tables s.top.slots (expression e)) (choosing p a b) (λ v u i. i) s h
      performed_keeps p n (o.Loop x low high grain f es) s h = evaluated_keeps n (bounds_at setting.tables s.top.slots (expression low) (expression high)) (looping p) (λ r u i. i) s h
      performed_keeps p n (o.Return e) s h = evaluated_keeps n (value_at setting.tables s.top.slots (expression e)) giving (λ v u i. i) s h

      gone_by_keeps : (p : Position) (i : Option Instruction) (s : PlainStrand) → Holds s → Holds (gone_by setting kit p i s)
      gone_by_keeps p None s h = h
      gone_by_keeps p (Some i) s h = performed_keeps p i.number i.operation s h

      pub gone_keeps : (p : Position) (s : PlainStrand) → Holds s → Holds (gone setting kit p s)
      gone_keeps p s h = gone_by_keeps p (instruction_inside setting.codes s.top.procedure (length s.top.outer) p) s h

      turn_keeps : (j : PlainLoop) (l : Loop) (share : Share) (s : PlainStrand) → Holds s → Holds (turn_by setting kit j l share s)
      turn_keeps j l share s h = called_keeps j.number Call None (Turns l (rest_of share)) j.callee (map expression j.arguments) (turn_slots j l share s) s h

      pub worked_keeps : (w : Work) (s : PlainStrand) → Holds s → Holds (worked setting kit w s)
      worked_keeps (Block p) s h = gone_keeps p s h
      worked_keeps Over s h = h
      worked_keeps (Halves l k share) s h = either_is Holds (k == 0 || nat_le share.count (loop_at setting.codes s.top.procedure l).grain) _ (split l (k - 1) share s) h h
      worked_keeps (Second l k share) s h = h
      worked_keeps (Turns l share) s h = either_is Holds (share.count == 0) (giving (pos 0) s) _ h (turn_keeps (loop_at setting.codes s.top.procedure l) l share s h)

      module _ (closes : (v : ℤ) (s : PlainStrand) → Holds s → Holds (closed setting v s)) where
        pub synced_keeps : (v : ℤ) (s : PlainStrand) → Holds s → Holds (synced setting v s)
        synced_keeps v s h = either_is Holds (is_entry s) s _ h (either_is Holds (owns_top s) (closed setting v s) _ (closes v s h) h)

        advanced_at_keeps : (ph : Phase) (s : PlainStrand) → Holds s → Holds (advanced_at setting kit ph s)
        advanced_at_keeps Entering s h = started_keeps s h
        advanced_at_keeps Running s h = worked_keeps s.top.work s h
        advanced_at_keeps AtSpawn s h = h
        advanced_at_keeps (Returning v) s h = synced_keeps v s h
        advanced_at_keeps (Leaving v) s h = left_keeps s.below v s h
        advanced_at_keeps (Broken f) s h = h

        pub advanced_keeps : (s : PlainStrand) → Holds s → Holds (advanced setting kit s)
        advanced_keeps s h = advanced_at_keeps s.phase s h

-- ---- kinds

-- all layers have these kinds
abbrev pub AreOf : List Kind → List Kind → List PlainLayer → List PlainRecord → Type 0
AreOf ks topmost lower made = (topmost ≡ ks) × All (λ (l : PlainLayer). l.kinds ≡ ks) lower

closed_are : (ks : List Kind) (l : PlainLayer) (lower : List PlainLayer) → l.kinds ≡ ks → All (λ (m : PlainLayer). m.kinds ≡ ks) lower
    → ((closed_onto l lower).kinds ≡ ks) × All (λ (m : PlainLayer). m.kinds ≡ ks) (below_top lower)
closed_are ks l [] e h = (e, h)
closed_are ks l (m ∷ ls) e h = (h 0 m (omega arith), All-tail (λ (k : PlainLayer). k.kinds ≡ ks) m ls h)

-- each step keeps the kinds of all layers, where those are the setting's
pub kinds_kept : (setting : Setting) (kit : Bool) (s : PlainStrand) → s.layer.kinds ≡ setting.kinds → All (λ (l : PlainLayer). l.kinds ≡ setting.kinds) s.lower
    → (((advanced setting kit s).layer.kinds ≡ setting.kinds) × All (λ (l : PlainLayer). l.kinds ≡ setting.kinds) (advanced setting kit s).lower)
kinds_kept setting kit s e h =
    advanced_keeps (AreOf setting.kinds) setting
    (λ s i. (refl, All-cons (λ (l : PlainLayer). l.kinds ≡ setting.kinds) s.layer s.lower i.0 i.1)) kit
    (λ v s i. closed_are setting.kinds s.layer s.lower i.0 i.1) s (e, h)
