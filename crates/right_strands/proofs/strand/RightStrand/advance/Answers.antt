use Rattle.std.proofs.Common.{◌≡◌, All, List, sym, ◌∙◌, subst, rules, ap}
use Rattle.positions.specs.Advance.{advanced}
use Rattle.small_steps.specs.Steps.{GivesNone, HoldsBy}
use Rattle.monoid_laws.specs.declared.Kind.{Kind}
use Rattle.monoid_laws.specs.Kinds.{IsMonoid}
use Rattle.right_strands.specs.Rightness.{PlainRight}
use Rattle.right_strands.proofs.Steps.{kinds_are, all_advanced, step_kept}
use Rattle.right_strands.proofs.Boxes.{held_there}
use Rattle.positions.specs.Strands.{PlainStrand}
use Rattle.right_strands.proofs.strand.RightStrand.advance.Goals as goal

pub advance-requires-clause-kinds : goal.advance-requires-clause-kinds
advance-requires-clause-kinds g c κs within =
    let strand : c.deref_mut.result.now.strand ≡ c.self.inside.body.value.strand = search rules in
    ap (λ (s : PlainStrand). s.layer.kinds) strand ∙ c.self.invariant.kinds ∙ sym (kinds_are g.J.Run.setting c.scene.inside.program.now c.scene.inside.tables.now c.scene.inside.records.now c.scene.invariant)

pub advance-requires-clause-monoids : goal.advance-requires-clause-monoids
advance-requires-clause-monoids g c κs within = subst (All IsMonoid) (sym (kinds_are g.J.Run.setting c.scene.inside.program.now c.scene.inside.tables.now c.scene.inside.records.now c.scene.invariant)) c.scene.invariant.monoids

pub advance-requires-clause-values : goal.advance-requires-clause-values
advance-requires-clause-values g c κs within = c.scene.invariant.values

pub advance-requires-clause-in_step : goal.advance-requires-clause-in_step
advance-requires-clause-in_step g c κs within = c.scene.invariant.in_step

pub advance-requires-clause-given_kinds : goal.advance-requires-clause-given_kinds
advance-requires-clause-given_kinds g c κs within k h = c.requires.given_kinds k h ∙ sym (kinds_are g.J.Run.setting c.scene.inside.program.now c.scene.inside.tables.now c.scene.inside.records.now c.scene.invariant)

pub advance-requires-clause-fits : goal.advance-requires-clause-fits
advance-requires-clause-fits g c κs within = subst (λ (k : List Kind). g.K.KitSource.fits k c.args.kits.now) (sym (kinds_are g.J.Run.setting c.scene.inside.program.now c.scene.inside.tables.now c.scene.inside.records.now c.scene.invariant)) c.requires.fits

pub invariant_of-self : goal.invariant_of-self
invariant_of-self g c =
    let d = c.deref_mut.result.now in
    let start : d.start ≡ c.self.inside.body.value.start = search rules in
    let failed : d.failed ≡ c.self.inside.body.value.failed = search rules in
    let strand : d.strand ≡ c.self.inside.body.value.strand = search rules in
    let held = held_there g.J.Run.setting c.self.inside.body.value.start d.start c.self.inside.body.value.failed d.failed c.self.inside.body.value.strand d.strand start failed strand c.self.invariant in
    step_kept g.J.Run.setting c.scene.inside.program.now c.scene.inside.tables.now c.scene.inside.records.now c.scene.invariant _ _ d.strand c.advance.new.self c.in-Ok.ensures.advanced c.in-Ok.ensures.small_step c.in-Ok.ensures.kinds d.start d.failed held

pub returns-in-Ok-clause-advanced : goal.returns-in-Ok-clause-advanced
returns-in-Ok-clause-advanced g c =
    let same : c.deref_mut.result.now.strand ≡ c.args.self.now.strand = search rules in
    subst (λ (s : PlainStrand). HoldsBy (g.K.KitSource.lacks c.args.kits.now) (GivesNone g.K.KitSource.gives c.args.kits.now) (λ kit. c.advance.new.self ≡ advanced g.J.Run.setting kit s)) same
    (all_advanced g.J.Run.setting c.scene.inside.program.now c.scene.inside.tables.now c.scene.inside.records.now c.scene.invariant _ _ c.deref_mut.result.now.strand c.advance.new.self c.in-Ok.ensures.advanced)

pub returns-in-Ok-clause-given_kinds : goal.returns-in-Ok-clause-given_kinds
returns-in-Ok-clause-given_kinds g c k h = c.in-Ok.ensures.given_kinds k h ∙ kinds_are g.J.Run.setting c.scene.inside.program.now c.scene.inside.tables.now c.scene.inside.records.now c.scene.invariant

pub returns-in-Err-clause-given_kinds : goal.returns-in-Err-clause-given_kinds
returns-in-Err-clause-given_kinds g c k h = c.in-Err.ensures.given_kinds k h ∙ kinds_are g.J.Run.setting c.scene.inside.program.now c.scene.inside.tables.now c.scene.inside.records.now c.scene.invariant
