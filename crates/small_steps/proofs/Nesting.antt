-- Instances that are called or spawned: what is done is what the step says.
use Rattle.std.proofs.Common.{◌≡◌, ℕ, ◌==◌, Bool, true, false, if◌then◌else◌, List, Option, Some, None, Result, Ok, Err, pos, refl, sym, ap, ◌∙◌, subst, length, OnOk, OnErr}
use Rattle.meaning.specs.declared.tree.Way.{Way}
use Rattle.meaning.specs.declared.tree.Way.TheVariants.{Call, Spawn}
use Rattle.meaning.specs.declared.FaultKind.TheVariants.{TooDeep}
use Rattle.linked_program.specs.Linked.{Linked}
use Rattle.linked_program.specs.CodeView.{memo_of}
use Rattle.evaluation.specs.declared.slot.Slot.{Slot}
use Rattle.evaluation.specs.Values.{NumberedOut, values_at}
use Rattle.monoid_laws.specs.declared.Kind.{Kind}
use Rattle.record_theory.specs.Named.{HaveValues}
use Rattle.linked_program.specs.declared.code.Instruction.{Instruction}
use Rattle.positions.specs.declared.work.Position.{Position}
use Rattle.positions.specs.declared.work.Loop.{Loop}
use Rattle.positions.specs.declared.work.Share.{Share}
use Rattle.positions.specs.declared.work.Work.{Work}
use Rattle.positions.specs.declared.phase.Phase.TheVariants.{Entering, AtSpawn}
use Rattle.positions.specs.Setting.{Setting}
use Rattle.positions.specs.Activations.{PlainActivation}
use Rattle.positions.specs.Code.{PlainLoop, loop_at, instruction_inside}
use Rattle.positions.specs.Strands.{PlainStrand}
use Rattle.positions.specs.Advance.{noted, answered, evaluated, faulted, child_of, pushed, recalled, answer_for, started_as, entered, nested, nested_memo, called, called_as, giving, turn_by, turned, performed, gone, gone_by, worked}
use Rattle.small_steps.specs.Ends.{Evaluates}
use Rattle.small_steps.specs.Steps.{HoldsBy, IsValued}
use Rattle.small_steps.proofs.Keeping.{evaluated_keeps, worked_keeps}

-- an evaluation that ended with a value, and the rest of it
pub evaluated_some : {A B : Type 0} (view : B → A) (n : ℕ) (o : NumberedOut A) (next : A → PlainStrand → PlainStrand) (s t : PlainStrand) (b : B) → Evaluates view n o s t (Some b) → next (view b) t ≡ evaluated n o next s
evaluated_some view n o next s t b h = ap (next (view b)) h.1 ∙ sym (ap (λ r. answered n r next (noted o.notes s)) h.0)

-- an evaluation that ended with a fault leaves the layers below as they are
pub evaluated_none : {A B : Type 0} (view : B → A) (n : ℕ) (o : NumberedOut A) (s t : PlainStrand) → Evaluates view n o s t None → t.lower ≡ s.lower
evaluated_none view n o s t h =
    ap (λ (u : PlainStrand). u.lower) (h (λ v u. u)) ∙ evaluated_keeps (λ kinds lower made. lower ≡ s.lower) n o (λ v u. u) (λ v u i. i) s refl

module _ (setting : Setting) (kit : Bool) where
  -- a memo child is called
  pub nested_call : (n : ℕ) (way : Way) (into : Option ℕ) (w : Work) (f : ℕ) (slots : List Slot) (s : PlainStrand) (child : PlainActivation) → way ≡ Call → (s.top.left == 0) ≡ false
      → memo_of setting.codes f ≡ true → child ≡ child_of f slots s
      → recalled setting kit (answer_for setting (pushed child false into w Entering s)) (pushed child false into w Entering s) ≡ nested setting kit n way into w f slots s
  nested_call n way into w f slots s child call deep memo is =
      ap (λ (a : PlainActivation). recalled setting kit (answer_for setting (pushed a false into w Entering s)) (pushed a false into w Entering s)) is
      ∙ sym (ap (λ y. nested setting kit n y into w f slots s) call
      ∙ ap (λ b. if b then faulted n TooDeep s else entered setting kit Call into w f slots s) deep
      ∙ ap (λ b. started_as setting kit b (pushed (child_of f slots s) false into w Entering s)) memo)

  -- a memo child is spawned
  pub nested_spawn : (n : ℕ) (way : Way) (into : Option ℕ) (w : Work) (f : ℕ) (slots : List Slot) (s : PlainStrand) (child : PlainActivation) → way ≡ Spawn → (s.top.left == 0) ≡ false
      → child ≡ child_of f slots s → pushed child true into w AtSpawn s ≡ nested setting kit n way into w f slots s
  nested_spawn n way into w f slots s child spawn deep is =
      ap (λ (a : PlainActivation). pushed a true into w AtSpawn s) is
      ∙ sym (ap (λ y. nested setting kit n y into w f slots s) spawn ∙ ap (λ b. if b then faulted n TooDeep s else entered setting kit Spawn into w f slots s) deep)

  pub called_memo : (n : ℕ) (way : Way) (into : Option ℕ) (w v : Work) (f : ℕ) (es : List Linked) (slots : List Slot) (s : PlainStrand) → memo_of setting.codes f ≡ true → w ≡ v
      → evaluated n (values_at setting.tables slots es) (nested_memo setting kit n way into w f) s ≡ called setting kit n way into v f es slots s
  called_memo n way into w v f es slots s memo e =
      ap (λ x. evaluated n (values_at setting.tables slots es) (nested_memo setting kit n way into x f) s) e ∙ sym (ap (λ b. called_as setting kit b n way into v f es slots s) memo)

  -- a loop has one more iteration
  pub turned_more : (l : Loop) (h : Share) (s : PlainStrand) (j : PlainLoop) → (h.count == 0) ≡ false → j ≡ loop_at setting.codes s.top.procedure l → turn_by setting kit j l h s ≡ turned setting kit l h s
  turned_more l h s j more found =
      ap (λ k. turn_by setting kit k l h s) found ∙ sym (ap (λ b. if b then giving (pos 0) s else turn_by setting kit (loop_at setting.codes s.top.procedure l) l h s) more)

  pub gone_some : (p : Position) (i : Instruction) (s : PlainStrand) → Some i ≡ instruction_inside setting.codes s.top.procedure (length s.top.outer) p → performed setting kit p i.number i.operation s ≡ gone setting kit p s
  gone_some p i s e = ap (λ o. gone_by setting kit p o s) e

-- a step of an instance that goes on makes no record
pub worked_made : {A E : Type 0} (lacks none : Type 0) (setting : Setting) (w : Work) (ks : List Kind) (s new : PlainStrand) (r : Result A E) → OnOk r (HoldsBy lacks none (λ kit. new ≡ worked setting kit w s)) → OnErr r (IsValued s new)
    → HaveValues ks s.tally.made → HaveValues ks new.tally.made
worked_made lacks none setting w ks s new (Ok a) h e f =
    subst (λ rs. HaveValues ks rs) (sym (ap (λ (u : PlainStrand). u.tally.made) h.done ∙ worked_keeps (λ kinds lower made. made ≡ s.tally.made) setting (λ u i. i) h.kit w s refl)) f
worked_made lacks none setting w ks s new (Err b) h e f = subst (λ rs. HaveValues ks rs) (sym (ap (λ (u : PlainStrand). u.tally.made) e)) f
