use Rattle.std.proofs.Common.{◌≡◌, List, All, sym, ap, subst, refl, ◌∙◌}
use Rattle.meaning.specs.Records.{Kept}
use Rattle.record_theory.specs.Named.{AreKept}
use Rattle.positions.specs.Setting.{IsLinked, HasItsTables, HasItsRecords, setting_with}
use Rattle.positions.specs.Layers.{PlainLayer}
use Rattle.positions.specs.Strands.{PlainStrand}
use Rattle.positions.specs.Advance.{advanced, pause_of}
use Rattle.positions.specs.Simulation.{IsSmallStep, KitsFollow, IsPause}
use Rattle.position_theory.proofs.Stepping.{small_step_is}
use Rattle.position_theory.proofs.Kits.{kits_follow}
use Rattle.position_theory.proofs.Pauses.{pause_is}
use Rattle.position_theory.proofs.Working.{working_is}
use Rattle.activations.specs.Given.{setting_over}
use Rattle.small_steps.specs.Steps.{GivesNone, HoldsBy, IsStepOf}
use Rattle.answered_loops.proofs.Memories.{advanced_same}
use Rattle.small_steps.proofs.Supplies.{holds_as}
use Rattle.frames.proofs.Whole.{advanced_whole, valued_whole}
use Rattle.small_steps.proofs.Keeping.{kinds_kept}
use Rattle.frames.proofs.strand.Strand.advance.Goals as goal

pub invariant_of-self : goal.invariant_of-self
invariant_of-self g c = valued_whole c.self.inside.machine c.step_by_phase.new.self c.in_err-step_by_phase.ensures.refused c.self.invariant

pub invariant_of-self-2 : goal.invariant_of-self-2
invariant_of-self-2 g c =
    let step = c.in_ok-step_by_phase.ensures.advanced in
    let kinds : c.self.inside.machine.layer.kinds ≡ c.args.program.now.kinds = ap (λ (s : PlainStrand). s.layer.kinds) c.self.view_is ∙ c.requires.kinds in
    advanced_whole (setting_over c.args.program.now c.args.tables.now c.args.records.now) step.kit c.self.inside.machine c.step_by_phase.new.self kinds step.done (c.step_by_phase.ensures.made c.self.invariant.made) c.self.invariant

pub returns-clause-advanced : goal.returns-clause-advanced
returns-clause-advanced g c =
    subst (λ (s : PlainStrand). HoldsBy (g.K.KitSource.lacks c.args.kits.now) (GivesNone g.K.KitSource.gives c.args.kits.now) (λ kit. c.step_by_phase.new.self ≡ advanced (setting_over c.args.program.now c.args.tables.now c.args.records.now) kit s))
    c.self.view_is c.in_ok-step_by_phase.ensures.advanced

pub returns-clause-small_step : goal.returns-clause-small_step
returns-clause-small_step g c =
    let p = c.args.program.now in
    let tables = c.args.tables.now in
    let records = c.args.records.now in
    let s = c.args.self.now in
    let new = c.step_by_phase.new.self in
    holds_as (g.K.KitSource.lacks c.args.kits.now) (GivesNone g.K.KitSource.gives c.args.kits.now)
    (λ kit. new ≡ advanced (setting_over p tables records) kit s)
    (λ kit. (kept : List Kept) → AreKept p kept records → HasItsTables (setting_with p tables.tables kept records) → IsStepOf (setting_with p tables.tables kept records) kit s new)
    (λ kit e kept are same.
    let setting = setting_with p tables.tables kept records in
    let linked : IsLinked setting = record { codes = c.linked.ensures.codes; kinds = c.linked.ensures.kinds } in
    let known : HasItsRecords setting = record { records = are; recording = refl; in_order = c.revised.ensures.each } in
    let is : advanced setting kit s ≡ new = sym (e ∙ advanced_same (setting_over p tables records) setting.memory kit s) in
    record {
      step = subst (λ (z : PlainStrand). IsSmallStep setting kit s z) is (small_step_is setting same linked known kit s);
      kits = subst (λ (z : PlainStrand). KitsFollow setting kit s z) is (kits_follow setting same linked known kit s);
    })
    (returns-clause-advanced g c)

pub returns-clause-no_step : goal.returns-clause-no_step
returns-clause-no_step g c kept =
    let setting = setting_with c.args.program.now c.args.tables.now.tables kept c.args.records.now in
    subst (λ p. IsPause setting p c.args.self.now) (sym (c.pause-paused.ensures.pause ∙ ap (pause_of c.args.program.now.codes) c.self.view_is)) (pause_is setting c.args.self.now)

pub returns-clause-goes_on : goal.returns-clause-goes_on
returns-clause-goes_on g c working kept =
    working_is (setting_with c.args.program.now c.args.tables.now.tables kept c.args.records.now) c.args.self.now
    (sym (c.pause-paused.ensures.pause ∙ ap (pause_of c.args.program.now.codes) c.self.view_is) ∙ working)

pub returns-clause-kinds : goal.returns-clause-kinds
returns-clause-kinds g c =
    let step = c.in_ok-step_by_phase.ensures.advanced in
    let machine = c.self.inside.machine in
    let kinds : machine.layer.kinds ≡ c.args.program.now.kinds = ap (λ (s : PlainStrand). s.layer.kinds) c.self.view_is ∙ c.requires.kinds in
    let below : All (λ (l : PlainLayer). l.kinds ≡ c.args.program.now.kinds) machine.lower = subst (λ ks. All (λ (l : PlainLayer). l.kinds ≡ ks) machine.lower) kinds c.self.invariant.kinds in
    ap (λ (s : PlainStrand). s.layer.kinds) step.done
    ∙ (kinds_kept (setting_over c.args.program.now c.args.tables.now c.args.records.now) step.kit machine kinds below).0
    ∙ sym c.requires.kinds
