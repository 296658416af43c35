-- A small step leaves a strand's lowest instance, and where the strand begins.
use Rattle.std.proofs.Common.{◌≡◌, ℕ, ◌+◌, ◌-◌, ◌==◌, ℤ, pos, Bool, true, false, ◌||◌, if◌then◌else◌, List, [], ◌∷◌, length, map, Option, Some, None, Result, Ok, Err, refl, sym, ap, ◌∙◌}
use Rattle.std.specs.Prelude.{nat_le, slice_get, OnOk}
use Rattle.meaning.specs.declared.tree.Way.{Way}
use Rattle.meaning.specs.declared.tree.Way.TheVariants.{Call, Spawn}
use Rattle.monoid_laws.specs.declared.Kind.{Kind}
use Rattle.monoid_laws.specs.Kinds.{names_element}
use Rattle.meaning.specs.declared.FaultKind.{FaultKind}
use Rattle.meaning.specs.Trail.{most_halvings}
use Rattle.linked_program.specs.declared.code.Operation.{Operation}
use Rattle.linked_program.specs.declared.code.Operation.TheVariants as o
use Rattle.linked_program.specs.declared.code.Instruction.{Instruction}
use Rattle.linked_program.specs.Linked.{Linked}
use Rattle.linked_program.specs.CodeView.{expression, slots_of, memo_of}
use Rattle.evaluation.specs.declared.slot.Slot.{Slot}
use Rattle.evaluation.specs.Slots.{slots_for}
use Rattle.evaluation.specs.Values.{NumberedOut, value_at, values_at, entry_at, bounds_at}
use Rattle.record_theory.specs.Record.{PlainRecord}
use Rattle.positions.specs.declared.work.Position.{Position}
use Rattle.positions.specs.declared.work.Loop.{Loop}
use Rattle.positions.specs.declared.work.Share.{Share}
use Rattle.positions.specs.declared.work.Work.{Work}
use Rattle.positions.specs.declared.work.Work.TheVariants.{Block, Over, Halves, Second, Turns}
use Rattle.positions.specs.declared.phase.Phase.{Phase}
use Rattle.positions.specs.declared.phase.Phase.TheVariants.{Entering, Running, AtSpawn, Returning, Leaving, Broken}
use Rattle.positions.specs.Setting.{Setting}
use Rattle.positions.specs.Activations.{PlainActivation, next_of, made, waiting}
use Rattle.positions.specs.Code.{instruction_inside, PlainLoop, loop_at}
use Rattle.positions.specs.Strands.{PlainStrand, is_entry}
use Rattle.positions.specs.Advance.{with_top, noted, answered, evaluated, recalled, answer_for, started_as, started_by, pushed, child_of, with_arguments, entered, nested, nested_memo, called_as, binding, if_named, combining, choosing, looping, giving, left_of, right_of, split, second_half, turn_slots, rest_of, turn_by, left_to, closed, owns_top, synced, performed, gone_by, worked, advanced_at, advanced}
use Rattle.stealing_deques.specs.declared.entry.Spot.{Spot}
use Rattle.answered_loops.specs.Ways.{IsWay, here, on, as_call}
use Rattle.running_ahead.specs.Stepped.{IsStepped}
use Rattle.running_ahead.specs.Stepped as stepped
use Rattle.stealing_deques.specs.Order.{spot}
use Rattle.worker_seats.specs.Spots.{numbers_of, lowest_name, spot_of}
use Rattle.threaded_driver.proofs.Names.{under, above}

module _ (there : Spot) where
  abbrev IsThere : PlainStrand → Type 0
  IsThere s = spot_of s ≡ there

  answered_there : {A : Type 0} (n : ℕ) (a : Result A FaultKind) (next : A → PlainStrand → PlainStrand) → ((v : A) (s : PlainStrand) → IsThere s → IsThere (next v s)) → (s : PlainStrand) → IsThere s → IsThere (answered n a next s)
  answered_there n (Ok v) next f s h = f v s h
  answered_there n (Err k) next f s h = h

  evaluated_there : {A : Type 0} (n : ℕ) (o : NumberedOut A) (next : A → PlainStrand → PlainStrand) → ((v : A) (s : PlainStrand) → IsThere s → IsThere (next v s)) → (s : PlainStrand) → IsThere s → IsThere (evaluated n o next s)
  evaluated_there n o next f s h = answered_there n o.answer next f (noted o.notes s) h

  either_there : (b : Bool) (s u : PlainStrand) → IsThere s → IsThere u → IsThere (if b then s else u)
  either_there true s u h i = h
  either_there false s u h i = i

  left_there : (below : List PlainActivation) (v : ℤ) (s : PlainStrand) → s.below ≡ below → IsThere s → IsThere (left_to below v s)
  left_there [] v s e h = h
  left_there (p ∷ rest) v s e h = ap (λ name. spot name (numbers_of s.start)) (under s.path rest ∙ ap (lowest_name s.path) (sym e)) ∙ h

  pushed_there : (child : PlainActivation) (spawned : Bool) (into : Option ℕ) (w : Work) (ph : Phase) (s : PlainStrand) → IsThere s → IsThere (pushed child spawned into w ph s)
  pushed_there child spawned into w ph s h = ap (λ name. spot name (numbers_of s.start)) (above s.path (s.top.children + 1) (waiting spawned into w s.top) s.below) ∙ h

  looping_there : (p : Position) (range : ℤ × ℕ) (s : PlainStrand) → IsThere s → IsThere (looping p range s)
  looping_there p range s h =
      pushed_there (made s.top.procedure s.top.slots (Halves (record { block = p.block; index = p.index; low = range.0 }) most_halvings (record { first = 0; count = range.1 })) s.top.left)
      false None (Block (next_of p)) Running s h

  split_there : (l : Loop) (k : ℕ) (share : Share) (s : PlainStrand) → IsThere s → IsThere (split l k share s)
  split_there l k share s h = pushed_there (made s.top.procedure s.top.slots (Halves l k (left_of share)) s.top.left) true None (Second l k (right_of share)) AtSpawn s h

  second_there : (l : Loop) (k : ℕ) (share : Share) (s : PlainStrand) → IsThere s → IsThere (second_half l k share s)
  second_there l k share s h = pushed_there (made s.top.procedure s.top.slots (Halves l k share) s.top.left) false None Over Running (with_top (record s.top { slots = [] }) s) h

  if_named_there : (b : Bool) (n : ℕ) (p : Position) (r : ℕ) (kind : Kind) (vs : List ℤ) (s : PlainStrand) → IsThere s → IsThere (if_named b n p r kind vs s)
  if_named_there true n p r kind vs s h = h
  if_named_there false n p r kind vs s h = h

  combining_there : (kind : Option Kind) (n : ℕ) (p : Position) (r : ℕ) (vs : List ℤ) (s : PlainStrand) → IsThere s → IsThere (combining kind n p r vs s)
  combining_there None n p r vs s h = h
  combining_there (Some kind) n p r vs s h = if_named_there (names_element kind vs) n p r kind vs s h

  module _ (setting : Setting) where
    recalled_there : (kit : Bool) (r : Option PlainRecord) (s : PlainStrand) → IsThere s → IsThere (recalled setting kit r s)
    recalled_there kit (Some r) s h = h
    recalled_there true None s h = h
    recalled_there false None s h = h

    started_as_there : (kit memo : Bool) (s : PlainStrand) → IsThere s → IsThere (started_as setting kit memo s)
    started_as_there kit true s h = recalled_there kit (answer_for setting s) s h
    started_as_there kit false s h = h

    started_there : (kit : Bool) (w : Work) (s : PlainStrand) → IsThere s → IsThere (started_by setting kit w s)
    started_there kit (Block p) s h = started_as_there kit (memo_of setting.codes s.top.procedure) s h
    started_there kit Over s h = h
    started_there kit (Halves l k share) s h = h
    started_there kit (Second l k share) s h = h
    started_there kit (Turns l share) s h = h

    synced_there : (v : ℤ) (s : PlainStrand) → IsThere s → IsThere (synced setting v s)
    synced_there v s h =
        either_there (is_entry s) s _ h (either_there (owns_top s) (closed setting v s) _ h h)

    module _ (kit : Bool) where
      entered_there : (way : Way) (into : Option ℕ) (w : Work) (f : ℕ) (slots : List Slot) (s : PlainStrand) → IsThere s → IsThere (entered setting kit way into w f slots s)
      entered_there Call into w f slots s h = started_there kit (child_of f slots s).work (pushed (child_of f slots s) false into w Entering s) (pushed_there (child_of f slots s) false into w Entering s h)
      entered_there Spawn into w f slots s h = pushed_there (child_of f slots s) true into w AtSpawn s h

      nested_there : (n : ℕ) (way : Way) (into : Option ℕ) (w : Work) (f : ℕ) (slots : List Slot) (s : PlainStrand) → IsThere s → IsThere (nested setting kit n way into w f slots s)
      nested_there n way into w f slots s h = either_there (s.top.left == 0) _ (entered setting kit way into w f slots s) h (entered_there way into w f slots s h)

      called_as_there : (memo : Bool) (n : ℕ) (way : Way) (into : Option ℕ) (w : Work) (f : ℕ) (es : List Linked) (slots : List Slot) (s : PlainStrand) → IsThere s → IsThere (called_as setting kit memo n way into w f es slots s)
      called_as_there true n way into w f es slots s h =
          evaluated_there n (values_at setting.tables slots es) (nested_memo setting kit n way into w f) (λ vs u i. nested_there n way into w f (slots_for (slots_of setting.codes f) vs) (with_arguments vs u) i) s h
      called_as_there false n way into w f es slots s h =
          evaluated_there n (entry_at setting.tables slots (slots_of setting.codes f) es) (nested setting kit n way into w f) (λ vs u i. nested_there n way into w f vs u i) s h

      performed_there : (p : Position) (n : ℕ) (op : Operation) (s : PlainStrand) → IsThere s → IsThere (performed setting kit p n op s)
      performed_there p n (o.Bind x e) s h = evaluated_there n (value_at setting.tables s.top.slots (expression e)) (binding p x) (λ v u i. i) s h
      performed_there p n (o.Enter x way f es) s h = called_as_there (memo_of setting.codes f) n way x (Block (next_of p)) f (map expression es.items) s.top.slots s h
      performed_there p n (o.Read x r) s h = h
      performed_there p n o.Sync s h = either_there (is_entry s) s _ h h
      performed_there p n (o.Update r es) s h =
          evaluated_there n (values_at setting.tables s.top.slots (map expression es.items)) (combining (slice_get setting.kinds r) n p r) (λ vs u i. combining_there (slice_get setting.kinds r) n p r vs u i) s h
      performed_there p n (o.If e a b) s h = evaluated_there n (value_at setting.tables s.top.slots (expression e)) (choosing p a b) (λ v u i. i) s h
      performed_there p n (o.Loop x low high grain f es) s h = evaluated_there n (bounds_at setting.tables s.top.slots (expression low) (expression high)) (looping p) (λ r u i. looping_there p r u i) s h
      performed_there p n (o.Return e) s h = evaluated_there n (value_at setting.tables s.top.slots (expression e)) giving (λ v u i. i) s h

      gone_there : (p : Position) (i : Option Instruction) (s : PlainStrand) → IsThere s → IsThere (gone_by setting kit p i s)
      gone_there p None s h = h
      gone_there p (Some i) s h = performed_there p i.number i.operation s h

      turn_there : (j : PlainLoop) (l : Loop) (share : Share) (s : PlainStrand) → IsThere s → IsThere (turn_by setting kit j l share s)
      turn_there j l share s h = called_as_there (memo_of setting.codes j.callee) j.number Call None (Turns l (rest_of share)) j.callee (map expression j.arguments) (turn_slots j l share s) s h

      worked_there : (w : Work) (s : PlainStrand) → IsThere s → IsThere (worked setting kit w s)
      worked_there (Block p) s h = gone_there p (instruction_inside setting.codes s.top.procedure (length s.top.outer) p) s h
      worked_there Over s h = h
      worked_there (Halves l k share) s h = either_there (k == 0 || nat_le share.count (loop_at setting.codes s.top.procedure l).grain) _ (split l (k - 1) share s) h (split_there l (k - 1) share s h)
      worked_there (Second l k share) s h = second_there l k share s h
      worked_there (Turns l share) s h = either_there (share.count == 0) (giving (pos 0) s) _ h (turn_there (loop_at setting.codes s.top.procedure l) l share s h)

      advanced_there : (ph : Phase) (s : PlainStrand) → IsThere s → IsThere (advanced_at setting kit ph s)
      advanced_there Entering s h = started_there kit s.top.work s h
      advanced_there Running s h = worked_there s.top.work s h
      advanced_there AtSpawn s h = h
      advanced_there (Returning v) s h = synced_there v s h
      advanced_there (Leaving v) s h = left_there s.below v s refl h
      advanced_there (Broken f) s h = h

pub stays : (setting : Setting) (kit : Bool) (s : PlainStrand) → spot_of (advanced setting kit s) ≡ spot_of s
stays setting kit s = advanced_there (spot_of s) setting kit s.phase s refl

-- so do many, where spawned children may be made calls
pub stays_way : (setting : Setting) (s t : PlainStrand) → IsWay setting s t → spot_of t ≡ spot_of s
stays_way setting s t here = refl
stays_way setting s t (on u v p e) = ap spot_of (e false) ∙ stays setting false u ∙ stays_way setting s u p
stays_way setting s t (as_call u v p spawn e) = ap spot_of e ∙ stays_way setting s u p

-- and many where a kit is free
pub stays_steps : (setting : Setting) (s t : PlainStrand) → IsStepped setting s t → spot_of t ≡ spot_of s
stays_steps setting s t stepped.here = refl
stays_steps setting s t (stepped.on u v p e) = ap spot_of e ∙ stays setting true u ∙ stays_steps setting s u p
stays_steps setting s t (stepped.as_call u v p spawn e) = ap spot_of e ∙ stays_steps setting s u p

pub stays_on : {A E : Type 0} (r : Result A E) (setting : Setting) (s t : PlainStrand) → OnOk r (IsStepped setting s t) → OnOk r (spot_of t ≡ spot_of s)
stays_on (Ok a) setting s t h = stays_steps setting s t h
stays_on (Err e) setting s t h = tt
