use Rattle.std.proofs.Common.{◌≡◌, List, refl, sym, ap, ◌∙◌, subst}
use Rattle.meaning.specs.Records.{Kept}
use Rattle.record_theory.specs.Named.{AreKept}
use Rattle.positions.specs.Setting.{IsLinked, HasItsTables, HasItsRecords, setting_with}
use Rattle.positions.specs.Strands.{PlainStrand}
use Rattle.activations.specs.Given.{setting_over}
use Rattle.running_ahead.specs.Stepped.{AreStepsOf, IsStepped}
use Rattle.running_ahead.specs.Leaves.{IsRecordedAhead}
use Rattle.frames.proofs.Stepping.{are_steps_of}
use Rattle.frames.proofs.Replays.{on_ok}
use Rattle.frames.proofs.strand.Strand.record_ahead.Goals as goal

pub invariant_of-self : goal.invariant_of-self
invariant_of-self g c = c.record_ahead.ensures.whole c.self.invariant

pub returns-clause-way : goal.returns-clause-way
returns-clause-way g c =
    let G = setting_over c.args.program.now c.args.tables.now c.args.records.now in
    let new = c.record_ahead.new.machine in
    on_ok c.record_ahead.result (IsRecordedAhead G c.self.inside.machine new) (IsStepped G c.args.self.now new) (λ h. subst (λ (s : PlainStrand). IsStepped G s new) c.self.view_is h.steps) c.record_ahead.ensures.ahead

pub returns-clause-steps : goal.returns-clause-steps
returns-clause-steps g c =
    let G = setting_over c.args.program.now c.args.tables.now c.args.records.now in
    let s = c.args.self.now in
    let t = c.record_ahead.new.machine in
    on_ok c.record_ahead.result (IsStepped G s t)
    ((kept : List Kept) → AreKept c.args.program.now kept c.args.records.now → HasItsTables (setting_with c.args.program.now c.args.tables.now.tables kept c.args.records.now)
    → AreStepsOf (setting_with c.args.program.now c.args.tables.now.tables kept c.args.records.now) s t)
    (λ steps kept are same.
    let i = setting_with c.args.program.now c.args.tables.now.tables kept c.args.records.now in
    let linked : IsLinked i = record { codes = c.linked.ensures.codes; kinds = c.linked.ensures.kinds } in
    let known : HasItsRecords i = record { records = are; recording = refl; in_order = c.revised.ensures.each } in
    are_steps_of G i.memory same linked known s t steps)
    (returns-clause-way g c)

pub returns-clause-lower : goal.returns-clause-lower
returns-clause-lower g c =
    let G = setting_over c.args.program.now c.args.tables.now c.args.records.now in
    let new = c.record_ahead.new.machine in
    on_ok c.record_ahead.result (IsRecordedAhead G c.self.inside.machine new) (new.lower ≡ c.args.self.now.lower) (λ h. h.lower ∙ ap (λ (s : PlainStrand). s.lower) c.self.view_is) c.record_ahead.ensures.ahead

pub returns-clause-kinds : goal.returns-clause-kinds
returns-clause-kinds g c = c.record_ahead.ensures.kinds ∙ ap (λ (s : PlainStrand). s.layer.kinds) c.self.view_is

pub returns-clause-without_kit : goal.returns-clause-without_kit
returns-clause-without_kit g c none = c.record_ahead.ensures.without_kit none ∙ c.self.view_is
