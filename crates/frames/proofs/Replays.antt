-- Iterations of a loop that records answer, in one go: what the type of a strand keeps, and what a call came to.
use Rattle.std.proofs.Common.{◌≡◌, List, length, All, Result, Ok, Err, OnOk, OnErr, refl, sym, ap, ◌∙◌, subst}
use Rattle.monoid_laws.specs.declared.Kind.{Kind}
use Rattle.record_theory.specs.Named.{HaveValues}
use Rattle.positions.specs.declared.phase.Phase.{Phase}
use Rattle.positions.specs.declared.phase.Phase.TheVariants.{Entering, Running, AtSpawn, Returning, Leaving, Broken}
use Rattle.positions.specs.Setting.{Setting}
use Rattle.positions.specs.Layers.{PlainLayer}
use Rattle.positions.specs.Strands.{PlainStrand, IsLayeredAt}
use Rattle.small_steps.specs.Steps.{IsWhole}
use Rattle.answered_loops.specs.Ways.{IsWay}
use Rattle.answered_loops.proofs.Ways.{way_layered}
use Rattle.loop_answers.specs.Ahead.{IsAnsweredAhead, IsSameButAnswers, IsRefusedAhead}

pub on_ok : {A E : Type 0} (r : Result A E) (P Q : Type 0) → (P → Q) → OnOk r P → OnOk r Q
on_ok (Ok a) P Q f h = f h
on_ok (Err e) P Q f h = tt

layered_as : (ph : Phase) (s u : PlainStrand) → u.tally.opened ≡ s.tally.opened → u.lower ≡ s.lower → IsLayeredAt ph s → IsLayeredAt ph u
layered_as Entering s u e f h = ap length e ∙ h ∙ sym (ap length f)
layered_as Running s u e f h = ap length e ∙ h ∙ sym (ap length f)
layered_as AtSpawn s u e f h = ap length e ∙ h ∙ sym (ap length f)
layered_as (Returning v) s u e f h = ap length e ∙ h ∙ sym (ap length f)
layered_as (Leaving v) s u e f h = ap length e ∙ h ∙ sym (ap length f)
layered_as (Broken b) s u e f h = h

module _ (setting : Setting) where
  answered_whole : (s t : PlainStrand) → IsAnsweredAhead setting s t → IsWhole s → IsWhole t
  answered_whole s t ahead h = record {
    layered = way_layered setting s t ahead.way h.layered;
    kinds = subst (λ ls. All (λ (l : PlainLayer). l.kinds ≡ t.layer.kinds) ls) (sym ahead.lower) (subst (λ (ks : List Kind). All (λ (l : PlainLayer). l.kinds ≡ ks) s.lower) (sym ahead.kinds) h.kinds);
    made = subst (λ (ks : List Kind). HaveValues ks t.tally.made) (sym ahead.kinds) (subst (HaveValues s.layer.kinds) (sym ahead.made) h.made);
  }

  refused_whole : (s t : PlainStrand) → IsSameButAnswers s t → IsWhole s → IsWhole t
  refused_whole s t e h =
      let u = record s { layer = t.layer; arguments = t.arguments; tally = record s.tally { reused = t.tally.reused } } in
      subst IsWhole (sym e.is) (record {
        layered = layered_as s.phase s u refl refl h.layered;
        kinds = subst (λ (ks : List Kind). All (λ (l : PlainLayer). l.kinds ≡ ks) s.lower) (sym e.kinds) h.kinds;
        made = subst (λ (ks : List Kind). HaveValues ks s.tally.made) (sym e.kinds) h.made;
      })

  pub whole_after : {A E : Type 0} (r : Result A E) (s t : PlainStrand) → OnOk r (IsAnsweredAhead setting s t) → OnErr r (IsRefusedAhead setting s t) → IsWhole s → IsWhole t
  whole_after (Ok a) s t ok err h = answered_whole s t ok h
  whole_after (Err e) s t ok err h = refused_whole err.between t err.same (answered_whole s err.between err.ahead h)

  pub way_then : {A E : Type 0} (r : Result A E) (s u t : PlainStrand) → s ≡ u → OnOk r (IsAnsweredAhead setting s t) → OnOk r (IsWay setting u t)
  way_then (Ok a) s u t e h = subst (λ (x : PlainStrand). IsWay setting x t) e h.way
  way_then (Err x) s u t e h = tt

  pub lower_then : {A E : Type 0} (r : Result A E) (s t : PlainStrand) → OnOk r (IsAnsweredAhead setting s t) → OnErr r (IsRefusedAhead setting s t) → t.lower ≡ s.lower
  lower_then (Ok a) s t ok err = ok.lower
  lower_then (Err x) s t ok err = ap (λ (u : PlainStrand). u.lower) err.same.is ∙ err.ahead.lower

  pub kinds_then : {A E : Type 0} (r : Result A E) (s t : PlainStrand) → OnOk r (IsAnsweredAhead setting s t) → OnErr r (IsRefusedAhead setting s t) → t.layer.kinds ≡ s.layer.kinds
  kinds_then (Ok a) s t ok err = ok.kinds
  kinds_then (Err x) s t ok err = err.same.kinds ∙ err.ahead.kinds
