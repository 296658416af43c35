-- A small step of a right strand, and a run's beginning.
use Rattle.std.proofs.Common.{◌≡◌, inl, inr, Bool, true, false, List, [], refl, sym, ap, ◌∙◌, subst}
use Rattle.monoid_laws.specs.declared.Kind.{Kind}
use Rattle.meaning.specs.Tables.{Tables}
use Rattle.meaning.specs.Records.{Kept}
use Rattle.meaning.specs.LayeredStrand.{LayeredStrand, advanced as named_advanced, first_layered}
use Rattle.meaning.specs.Tallies.{Tally, no_tally}
use Rattle.trail_theory.specs.OpenLayers.{IsNumbered}
use Rattle.strand_theory.specs.Ready.{IsReady}
use Rattle.linked_program.specs.Checked.{PlainChecked}
use Rattle.input_tables.specs.Edited.{Edited}
use Rattle.record_theory.specs.Record.{PlainRecord}
use Rattle.record_theory.specs.Named.{AreKept}
use Rattle.positions.specs.declared.start.Start.{Start}
use Rattle.positions.specs.declared.start.Start.TheVariants.{Root}
use Rattle.positions.specs.Setting.{Setting, setting_with, HasItsTables}
use Rattle.positions.specs.Strands.{PlainStrand}
use Rattle.positions.specs.Advance.{advanced, advanced_at}
use Rattle.positions.specs.Moves.{first_strand}
use Rattle.positions.specs.Simulation.{IsSmallStep, IsFirst, small_step, tally_after}
use Rattle.positions.specs.Nesting.{NestAt}
use Rattle.position_theory.proofs.Nested.{nest_none, nests_kept}
use Rattle.small_steps.specs.Steps.{HoldsBy, IsStepOf}
use Rattle.activations.specs.Given.{setting_over}
use Rattle.positions.specs.Stands.{IsStart}
use Rattle.right_strands.specs.Picked.{IsSet}
use Rattle.right_strands.specs.Remembering.{Remembers, recalling}
use Rattle.right_strands.specs.Rightness.{IsSound, IsCut, IsRightBy, IsHeld}
use Rattle.right_strands.proofs.Starts.{starts_same}
use Rattle.right_strands.proofs.Layered.{none_opened, sound_layered}
use Rattle.right_strands.proofs.Owned.{first_own, made_hold, steps_own}
use Rattle.right_strands.proofs.Recorded.{start_kept, first_recorded, stepped_recorded}
use Rattle.right_strands.proofs.Settings.{advanced_with, advanced_is, set_with, kept_with}

-- a right strand that begins at the same place
pub record GoesOn (setting : Setting) (s s' : PlainStrand) : Type 0 where
  pub right : IsRightBy setting s'
  pub begins : s.start ≡ s'.start

module _ (setting : Setting) (ready : IsReady setting.program setting.tables setting.memory) (numbered : IsNumbered setting.program) where
  sound_step : (kit kit' : Bool) (s s' : PlainStrand) → s' ≡ advanced setting kit s → IsSmallStep setting kit' s s' → IsSound setting s → GoesOn setting s s'
  sound_step kit kit' s s' e step h =
      let x : LayeredStrand = named_advanced setting.program.tree h.named (small_step setting kit' h.named h.tally) in
      let t : Tally = tally_after setting kit' h.named h.tally in
      let owns = steps_own setting ready numbered kit' h.named h.tally h.owns in
      let stands = step h.named h.tally h.stands (sound_layered setting s h) (made_hold setting x t owns) in
      record {
        right = inl (record { named = x; tally = t; stands = stands; nests = subst (λ u. NestAt setting.codes u.phase u) (sym e) (nests_kept setting kit s h.nests); owns = owns; recorded = stepped_recorded setting h.named h.tally h.owns h.recorded ready numbered kit' owns });
        begins = starts_same s.start s'.start s.phase s'.phase s.path s'.path h.named.start h.stands.start (subst (IsStart s'.start s'.phase s'.path) (start_kept setting.program.tree h.named (small_step setting kit' h.named h.tally)) stands.start);
      }

  cut_step : (kit : Bool) (s s' : PlainStrand) → s' ≡ advanced setting kit s → IsCut setting s → GoesOn setting s s'
  cut_step kit s s' e h =
      let same : s' ≡ s = e ∙ ap (λ ph. advanced_at setting kit ph s) h.phase in
      record { right = inr (subst (IsCut setting) (sym same) h); begins = ap (λ (s : PlainStrand). s.start) (sym same) }

  pub step_right : (kit kit' : Bool) (s s' : PlainStrand) → s' ≡ advanced setting kit s → IsSmallStep setting kit' s s' → IsRightBy setting s → GoesOn setting s s'
  step_right kit kit' s s' e step (inl h) = sound_step kit kit' s s' e step h
  step_right kit kit' s s' e step (inr h) = cut_step kit s s' e h

  -- ---- the beginning

  pub first_right : (s : PlainStrand) → IsFirst setting s → IsRightBy setting s
  first_right s h = inl (record { named = first_layered setting.program.tree; tally = no_tally; stands = h; nests = nest_none setting.codes s.phase s (none_opened setting s.tally.opened h.tally.opened); owns = first_own setting; recorded = first_recorded setting (first_own setting) })

-- ---- a step of the code

pub kinds_are : (setting : Setting) (p : PlainChecked) (e : Edited) (r : List PlainRecord) → IsSet setting p e r → p.kinds ≡ setting.kinds
kinds_are setting p e r h = ap (λ (i : Setting). i.kinds) h.same

pub all_advanced : (setting : Setting) (p : PlainChecked) (e : Edited) (r : List PlainRecord) → IsSet setting p e r → (lacks none : Type 0) (s s' : PlainStrand) → HoldsBy lacks none (λ kit. s' ≡ advanced (setting_over p e r) kit s)
    → HoldsBy lacks none (λ kit. s' ≡ advanced setting kit s)
all_advanced setting p e r set lacks none s s' h = record {
  kit = h.kit;
  done = h.done ∙ advanced_is setting p e r set h.kit s;
  with_kit = λ k. h.with_kit k ∙ advanced_is setting p e r set true s;
  without_kit = λ k. h.without_kit k ∙ advanced_is setting p e r set false s;
}

-- what a step of the code is for the sound records of the run
abbrev IsStepBy : Type 0 → Type 0 → PlainChecked → Edited → List PlainRecord → PlainStrand → PlainStrand → Type 0
IsStepBy lacks none p e r s s' = HoldsBy lacks none (λ kit. (kept : List Kept) → AreKept p kept r → HasItsTables (setting_with p e.tables kept r) → IsStepOf (setting_with p e.tables kept r) kit s s')

goes_on : (setting : Setting) (p : PlainChecked) (e : Edited) (r : List PlainRecord) → IsSet setting p e r → (k : Remembers setting) (lacks none : Type 0) (s s' : PlainStrand) → HoldsBy lacks none (λ kit. s' ≡ advanced (setting_over p e r) kit s) → IsStepBy lacks none p e r s s'
    → IsRightBy (recalling setting k) s → GoesOn (recalling setting k) s s'
goes_on setting p e r set k lacks none s s' adv step h =
    let by : IsSmallStep (recalling setting k) step.kit s s' = subst (λ (i : Setting). IsSmallStep i step.kit s s') (set_with setting p e r set k) (step.done k.kept (kept_with setting p e r set k) set.names).step in
    step_right (recalling setting k) (set.ready k) set.numbered adv.kit step.kit s s' (adv.done ∙ advanced_is setting p e r set adv.kit s ∙ advanced_with setting k adv.kit s) by h

pub step_kept : (setting : Setting) (p : PlainChecked) (e : Edited) (r : List PlainRecord) → IsSet setting p e r → (lacks none : Type 0) (s s' : PlainStrand) → HoldsBy lacks none (λ kit. s' ≡ advanced (setting_over p e r) kit s) → IsStepBy lacks none p e r s s'
    → s'.layer.kinds ≡ s.layer.kinds → (start : Start) (failed : Bool) → IsHeld setting start failed s → IsHeld setting start failed s'
step_kept setting p e r set lacks none s s' adv step kinds start failed h = record {
  kinds = kinds ∙ h.kinds;
  right = λ n k. (goes_on setting p e r set k lacks none s s' adv step (h.right n k)).right;
  begins = λ n. h.begins n ∙ (goes_on setting p e r set set.sound lacks none s s' adv step (h.right n set.sound)).begins;
}

-- it is main's strand of the definitions
pub first_named : (setting : Setting) (p : PlainChecked) (e : Edited) (r : List PlainRecord) → IsSet setting p e r → (s : PlainStrand) → ((tables : Tables) (kept : List Kept) (records : List PlainRecord) → IsFirst (setting_with p tables kept records) s) → IsFirst setting s
first_named setting p e r set s first = subst (λ (i : Setting). IsFirst i s) set.same (first e.tables [] r)

pub first_kept : (setting : Setting) (p : PlainChecked) (e : Edited) (r : List PlainRecord) → IsSet setting p e r → (s : PlainStrand) (kit : List Kind) → kit ≡ setting.kinds → s.layer.kinds ≡ kit → s ≡ first_strand p.codes kit p.initials p.main → ((tables : Tables) (kept : List Kept) (records : List PlainRecord) → IsFirst (setting_with p tables kept records) s) → IsHeld setting Root false s
first_kept setting p e r set s kit same kinds is first = record {
  kinds = kinds ∙ same;
  right = λ n k. first_right (recalling setting k) (set.ready k) set.numbered s (subst (λ (i : Setting). IsFirst i s) (set_with setting p e r set k) (first e.tables k.kept r));
  begins = λ n. sym (ap (λ (s : PlainStrand). s.start) is);
}
