-- What a strand keeps: one layer more than there are open instances, the same kinds in all layers, and records of these kinds.
use Rattle.std.proofs.Common.{◌≡◌, ℤ, Bool, List, [], ◌∷◌, length, All, Result, Ok, Err, OnOk, OnErr, refl, sym, ap, ◌∙◌, subst, arith}
use Rattle.std.proofs.lemmas.List.Elements.{All-cons, All-tail, All-nil}
use Rattle.monoid_laws.specs.declared.Kind.{Kind}
use Rattle.linked_program.specs.declared.code.Code.{Code}
use Rattle.record_theory.specs.Record.{PlainRecord}
use Rattle.record_theory.specs.Named.{HasValuesIfAnswers, HaveValues}
use Rattle.positions.specs.declared.phase.Phase.{Phase}
use Rattle.positions.specs.declared.phase.Phase.TheVariants.{Entering, Running, AtSpawn, Returning, Leaving, Broken}
use Rattle.positions.specs.Setting.{Setting}
use Rattle.positions.specs.Layers.{PlainLayer}
use Rattle.positions.specs.Tallies.{PlainTally, no_tally}
use Rattle.positions.specs.Strands.{PlainStrand, PlainTask, IsLayered, IsLayeredAt}
use Rattle.positions.specs.Advance.{advanced}
use Rattle.positions.specs.Moves.{stolen, joined_at, joined_after, joined_ended, joined}
use Rattle.position_theory.proofs.Layered.{layers_kept}
use Rattle.strand_moves.specs.Bare.{IsBare}
use Rattle.strand_moves.specs.Joins.{IsDone, with_worths}
use Rattle.small_steps.specs.Steps.{IsWhole, IsValued, revalued, revalued_first}
use Rattle.small_steps.proofs.Keeping.{kinds_kept}
use Rattle.small_steps.proofs.Refusals.{top_valued}

abbrev pub Counts : PlainStrand → Type 0
Counts s = length s.tally.opened ≡ length s.lower

layered_at : (ph : Phase) (s : PlainStrand) → Counts s → IsLayeredAt ph s
layered_at Entering s h = h
layered_at Running s h = h
layered_at AtSpawn s h = h
layered_at (Returning v) s h = h
layered_at (Leaving v) s h = h
layered_at (Broken f) s h = tt

kinds_as : (ks cs : List Kind) (lower : List PlainLayer) → ks ≡ cs → All (λ (l : PlainLayer). l.kinds ≡ ks) lower → All (λ (l : PlainLayer). l.kinds ≡ cs) lower
kinds_as ks cs lower e h = subst (λ zs. All (λ (l : PlainLayer). l.kinds ≡ zs) lower) e h

made_as : (ks cs : List Kind) (made : List PlainRecord) → ks ≡ cs → HaveValues ks made → HaveValues cs made
made_as ks cs made e h = subst (λ zs. HaveValues zs made) e h

-- ---- steps

pub advanced_whole : (setting : Setting) (kit : Bool) (s t : PlainStrand) → s.layer.kinds ≡ setting.kinds → t ≡ advanced setting kit s → HaveValues s.layer.kinds t.tally.made → IsWhole s → IsWhole t
advanced_whole setting kit s t e is made h =
    let after = advanced setting kit s in
    let kept = kinds_kept setting kit s e (kinds_as s.layer.kinds setting.kinds s.lower e h.kinds) in
    let same : t.layer.kinds ≡ setting.kinds = ap (λ (u : PlainStrand). u.layer.kinds) is ∙ kept.0 in
    record {
      layered = subst IsLayered (sym is) (layers_kept setting kit s h.layered);
      kinds = subst (λ (u : PlainStrand). All (λ (l : PlainLayer). l.kinds ≡ t.layer.kinds) u.lower) (sym is) (kinds_as setting.kinds t.layer.kinds after.lower (sym same) kept.1);
      made = made_as s.layer.kinds t.layer.kinds t.tally.made (e ∙ sym same) made;
    }

revalued_length : (ls ms : List PlainLayer) → length (revalued_first ls ms) ≡ length ls
revalued_length [] ms = refl
revalued_length (l ∷ ls) [] = refl
revalued_length (l ∷ ls) (m ∷ ms) = refl

revalued_kinds : (ks : List Kind) (ls ms : List PlainLayer) → All (λ (l : PlainLayer). l.kinds ≡ ks) ls → All (λ (l : PlainLayer). l.kinds ≡ ks) (revalued_first ls ms)
revalued_kinds ks [] ms h = h
revalued_kinds ks (l ∷ ls) [] h = h
revalued_kinds ks (l ∷ ls) (m ∷ ms) h = All-cons (λ (k : PlainLayer). k.kinds ≡ ks) (revalued l m) ls (h 0 l (omega arith)) (All-tail (λ (k : PlainLayer). k.kinds ≡ ks) l ls h)

layered_as : (ph : Phase) (s t : PlainStrand) → length t.tally.opened ≡ length s.tally.opened → length t.lower ≡ length s.lower → IsLayeredAt ph s → IsLayeredAt ph t
layered_as Entering s t e f h = e ∙ h ∙ sym f
layered_as Running s t e f h = e ∙ h ∙ sym f
layered_as AtSpawn s t e f h = e ∙ h ∙ sym f
layered_as (Returning v) s t e f h = e ∙ h ∙ sym f
layered_as (Leaving v) s t e f h = e ∙ h ∙ sym f
layered_as (Broken b) s t e f h = tt

pub valued_whole : (s t : PlainStrand) → IsValued s t → IsWhole s → IsWhole t
valued_whole s t is h =
    let u : PlainStrand = record s { layer = revalued s.layer t.layer; lower = revalued_first s.lower t.lower } in
    let whole : IsWhole u = record { layered = layered_as s.phase s u refl (revalued_length s.lower t.lower) h.layered; kinds = revalued_kinds s.layer.kinds s.lower t.lower h.kinds; made = h.made } in
    subst IsWhole (sym is) whole

-- ---- moves

-- ---- joins

joined_ended_whole : (l r : PlainStrand) (v : ℤ) → Counts l → IsWhole l → HaveValues l.layer.kinds (joined_ended l v r).tally.made → IsWhole (joined_ended l v r)
joined_ended_whole l r v n h made = record { layered = layered_at (joined_ended l v r).phase (joined_ended l v r) n; kinds = h.kinds; made = made }

joined_after_whole : (ph : Phase) (l r : PlainStrand) (v : ℤ) → Counts l → IsWhole l → HaveValues l.layer.kinds (joined_after ph l v r).tally.made → IsWhole (joined_after ph l v r)
joined_after_whole (Broken f) l r v n h made = record { layered = tt; kinds = h.kinds; made = made }
joined_after_whole Entering l r v n h made = joined_ended_whole l r v n h made
joined_after_whole Running l r v n h made = joined_ended_whole l r v n h made
joined_after_whole AtSpawn l r v n h made = joined_ended_whole l r v n h made
joined_after_whole (Returning w) l r v n h made = joined_ended_whole l r v n h made
joined_after_whole (Leaving w) l r v n h made = joined_ended_whole l r v n h made

joined_at_whole : (ph : Phase) (l r : PlainStrand) → IsDone ph → IsLayeredAt ph l → IsWhole l → HaveValues l.layer.kinds (joined_at ph l r).tally.made → IsWhole (joined_at ph l r)
joined_at_whole (Broken f) l r d n h made = record { layered = tt; kinds = h.kinds; made = made }
joined_at_whole (Leaving v) l r d n h made = joined_after_whole r.phase l r v n h made
joined_at_whole Entering l r d n h made = absurd d
joined_at_whole Running l r d n h made = absurd d
joined_at_whole AtSpawn l r d n h made = absurd d
joined_at_whole (Returning v) l r d n h made = absurd d

pub joined_whole : (l r new : PlainStrand) → IsDone l.phase → new ≡ joined l r → HaveValues l.layer.kinds new.tally.made → IsWhole l → IsWhole new
joined_whole l r new d is made h =
    subst IsWhole (sym is) (joined_at_whole l.phase l r d h.layered h (subst (λ (z : PlainStrand). HaveValues l.layer.kinds z.tally.made) is made))

pub worths_whole : (s t : PlainStrand) → t ≡ with_worths t.layer.worths s → IsWhole s → IsWhole t
worths_whole s t e h = valued_whole s t (top_valued s t e) h

pub joined_or : {A E : Type 0} (l r new : PlainStrand) (res : Result A E) → IsDone l.phase → OnOk res (new ≡ joined l r) → OnErr res (new ≡ with_worths new.layer.worths l)
    → ((kinds : List Kind) → HaveValues kinds l.tally.made → HaveValues kinds r.tally.made → HaveValues kinds new.tally.made) → l.layer.kinds ≡ r.layer.kinds → IsWhole l → IsWhole r → IsWhole new
joined_or l r new (Ok a) d is kept made same h k = joined_whole l r new d is (made l.layer.kinds h.made (made_as r.layer.kinds l.layer.kinds r.tally.made (sym same) k.made)) h
joined_or l r new (Err e) d is kept made same h k = worths_whole l new kept h

-- one that is let go has no layers below its one, and has nothing counted
over_whole : (s : PlainStrand) → s.lower ≡ [] → s.tally ≡ no_tally → IsWhole s
over_whole s e f = record {
  layered = layered_at s.phase s (ap (λ (t : PlainTally). length t.opened) f ∙ sym (ap length e));
  kinds = subst (λ ls. All (λ (l : PlainLayer). l.kinds ≡ s.layer.kinds) ls) (sym e) (All-nil (λ (l : PlainLayer). l.kinds ≡ s.layer.kinds));
  made = subst (λ (t : PlainTally). HaveValues s.layer.kinds t.made) (sym f) (All-nil (HasValuesIfAnswers s.layer.kinds));
}

pub over_or : {A E : Type 0} (r new : PlainStrand) (res : Result A E) → OnOk res (new.lower ≡ []) → OnOk res (new.tally ≡ no_tally) → OnErr res (new ≡ with_worths new.layer.worths r) → IsWhole r → IsWhole new
over_or r new (Ok a) e f kept h = over_whole new e f
over_or r new (Err x) e f kept h = worths_whole r new kept h

-- one that holds nothing, and one in which that of a stolen continuation has begun, or that holds nothing still
pub bare_whole : (s : PlainStrand) → IsBare s → IsWhole s
bare_whole s h = over_whole s h.lower h.tally

pub begun_or : {A E : Type 0} (codes : List Code) (kit : List Kind) (task : PlainTask) (new : PlainStrand) (res : Result A E) → OnOk res (new ≡ stolen codes kit task) → OnErr res (IsBare new) → IsWhole new
begun_or codes kit task new (Ok a) is bare = over_whole new (ap (λ (s : PlainStrand). s.lower) is) (ap (λ (s : PlainStrand). s.tally) is)
begun_or codes kit task new (Err e) is bare = bare_whole new bare
