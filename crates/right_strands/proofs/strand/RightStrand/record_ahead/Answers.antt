use Rattle.std.proofs.Common.{◌≡◌, All, List, sym, ap, ◌∙◌, subst, rules}
use Rattle.monoid_laws.specs.declared.Kind.{Kind}
use Rattle.monoid_laws.specs.Kinds.{IsMonoid}
use Rattle.positions.specs.Setting.{Setting}
use Rattle.running_ahead.specs.Stepped.{IsStepped}
use Rattle.right_strands.specs.Rightness.{PlainRight}
use Rattle.right_strands.proofs.Steps.{kinds_are}
use Rattle.right_strands.proofs.Ways.{steps_kept}
use Rattle.right_strands.proofs.Boxes.{held_there}
use Rattle.positions.specs.Strands.{PlainStrand}
use Rattle.right_strands.proofs.strand.RightStrand.record_ahead.Goals as goal

pub record_ahead-requires-clause-kinds : goal.record_ahead-requires-clause-kinds
record_ahead-requires-clause-kinds g c κs within =
    let strand : c.deref_mut.result.now.strand ≡ c.self.inside.body.value.strand = search rules in
    ap (λ (s : PlainStrand). s.layer.kinds) strand ∙ c.self.invariant.kinds ∙ sym (kinds_are g.J.Run.setting c.scene.inside.program.now c.scene.inside.tables.now c.scene.inside.records.now c.scene.invariant)

pub record_ahead-requires-clause-monoids : goal.record_ahead-requires-clause-monoids
record_ahead-requires-clause-monoids g c κs within = subst (All IsMonoid) (sym (kinds_are g.J.Run.setting c.scene.inside.program.now c.scene.inside.tables.now c.scene.inside.records.now c.scene.invariant)) c.scene.invariant.monoids

pub record_ahead-requires-clause-values : goal.record_ahead-requires-clause-values
record_ahead-requires-clause-values g c κs within = c.scene.invariant.values

pub record_ahead-requires-clause-in_step : goal.record_ahead-requires-clause-in_step
record_ahead-requires-clause-in_step g c κs within = c.scene.invariant.in_step

pub record_ahead-requires-clause-given_kinds : goal.record_ahead-requires-clause-given_kinds
record_ahead-requires-clause-given_kinds g c κs within k h = c.requires.given_kinds k h ∙ sym (kinds_are g.J.Run.setting c.scene.inside.program.now c.scene.inside.tables.now c.scene.inside.records.now c.scene.invariant)

pub record_ahead-requires-clause-fits : goal.record_ahead-requires-clause-fits
record_ahead-requires-clause-fits g c κs within = subst (λ (k : List Kind). g.K.KitSource.fits k c.args.kits.now) (sym (kinds_are g.J.Run.setting c.scene.inside.program.now c.scene.inside.tables.now c.scene.inside.records.now c.scene.invariant)) c.requires.fits

pub invariant_of-self : goal.invariant_of-self
invariant_of-self g c =
    let d = c.deref_mut.result.now in
    let start : d.start ≡ c.self.inside.body.value.start = search rules in
    let failed : d.failed ≡ c.self.inside.body.value.failed = search rules in
    let strand : d.strand ≡ c.self.inside.body.value.strand = search rules in
    let held = held_there g.J.Run.setting c.self.inside.body.value.start d.start c.self.inside.body.value.failed d.failed c.self.inside.body.value.strand d.strand start failed strand c.self.invariant in
    steps_kept g.J.Run.setting c.scene.inside.program.now c.scene.inside.tables.now c.scene.inside.records.now c.scene.invariant d.strand c.record_ahead.new.self c.in-Ok.ensures.steps c.in-Ok.ensures.kinds d.start d.failed held

pub returns-in-Ok-clause-steps : goal.returns-in-Ok-clause-steps
returns-in-Ok-clause-steps g c =
    let same : c.deref_mut.result.now.strand ≡ c.args.self.now.strand = search rules in
    subst (λ (s : PlainStrand). IsStepped g.J.Run.setting s c.record_ahead.new.self) same
    (subst (λ (i : Setting). IsStepped i c.deref_mut.result.now.strand c.record_ahead.new.self) c.scene.invariant.same c.in-Ok.ensures.way)

pub returns-in-Ok-clause-given_kinds : goal.returns-in-Ok-clause-given_kinds
returns-in-Ok-clause-given_kinds g c k h = c.in-Ok.ensures.given_kinds k h ∙ kinds_are g.J.Run.setting c.scene.inside.program.now c.scene.inside.tables.now c.scene.inside.records.now c.scene.invariant

pub returns-in-Err-clause-given_kinds : goal.returns-in-Err-clause-given_kinds
returns-in-Err-clause-given_kinds g c k h = c.in-Err.ensures.given_kinds k h ∙ kinds_are g.J.Run.setting c.scene.inside.program.now c.scene.inside.tables.now c.scene.inside.records.now c.scene.invariant

pub returns-in-Ok-clause-without_kit : goal.returns-in-Ok-clause-without_kit
returns-in-Ok-clause-without_kit g c none =
    let same : c.deref_mut.result.now.strand ≡ c.args.self.now.strand = search rules in
    c.in-Ok.ensures.without_kit none ∙ same

pub returns-in-Err-clause-without_kit : goal.returns-in-Err-clause-without_kit
returns-in-Err-clause-without_kit g c none =
    let same : c.deref_mut.result.now.strand ≡ c.args.self.now.strand = search rules in
    let here : c.deref_mut-in-Err.result.now.strand ≡ c.record_ahead.new.self = search rules in
    here ∙ c.in-Err.ensures.without_kit none ∙ same
