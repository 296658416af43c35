use Rattle.std.proofs.Common.{All, sym, ◌∙◌, subst, rules, ◌≡◌, ap}
use Rattle.monoid_laws.specs.Kinds.{IsMonoid}
use Rattle.positions.specs.Setting.{Setting}
use Rattle.answered_loops.specs.Ways.{IsWay}
use Rattle.right_strands.specs.Rightness.{PlainRight}
use Rattle.right_strands.proofs.Steps.{kinds_are}
use Rattle.right_strands.proofs.Ways.{way_kept}
use Rattle.right_strands.proofs.Boxes.{held_there}
use Rattle.positions.specs.Strands.{PlainStrand}
use Rattle.right_strands.proofs.strand.RightStrand.answer_ahead.Goals as goal

pub answer_ahead-requires-clause-kinds : goal.answer_ahead-requires-clause-kinds
answer_ahead-requires-clause-kinds g c κs within =
    let strand : c.deref_mut.result.now.strand ≡ c.self.inside.body.value.strand = search rules in
    ap (λ (s : PlainStrand). s.layer.kinds) strand ∙ c.self.invariant.kinds ∙ sym (kinds_are g.J.Run.setting c.scene.inside.program.now c.scene.inside.tables.now c.scene.inside.records.now c.scene.invariant)

pub answer_ahead-requires-clause-monoids : goal.answer_ahead-requires-clause-monoids
answer_ahead-requires-clause-monoids g c κs within = subst (All IsMonoid) (sym (kinds_are g.J.Run.setting c.scene.inside.program.now c.scene.inside.tables.now c.scene.inside.records.now c.scene.invariant)) c.scene.invariant.monoids

pub answer_ahead-requires-clause-values : goal.answer_ahead-requires-clause-values
answer_ahead-requires-clause-values g c κs within = c.scene.invariant.values

pub answer_ahead-requires-clause-in_step : goal.answer_ahead-requires-clause-in_step
answer_ahead-requires-clause-in_step g c κs within = c.scene.invariant.in_step

pub invariant_of-self : goal.invariant_of-self
invariant_of-self g c =
    let d = c.deref_mut.result.now in
    let start : d.start ≡ c.self.inside.body.value.start = search rules in
    let failed : d.failed ≡ c.self.inside.body.value.failed = search rules in
    let strand : d.strand ≡ c.self.inside.body.value.strand = search rules in
    let held = held_there g.J.Run.setting c.self.inside.body.value.start d.start c.self.inside.body.value.failed d.failed c.self.inside.body.value.strand d.strand start failed strand c.self.invariant in
    way_kept g.J.Run.setting c.scene.inside.program.now c.scene.inside.tables.now c.scene.inside.records.now c.scene.invariant d.strand c.answer_ahead.new.self c.in-Ok.ensures.steps c.in-Ok.ensures.kinds d.start d.failed held

pub returns-in-Ok-clause-way : goal.returns-in-Ok-clause-way
returns-in-Ok-clause-way g c =
    let same : c.deref_mut.result.now.strand ≡ c.args.self.now.strand = search rules in
    subst (λ (s : PlainStrand). IsWay g.J.Run.setting s c.answer_ahead.new.self) same
    (subst (λ (i : Setting). IsWay i c.deref_mut.result.now.strand c.answer_ahead.new.self) c.scene.invariant.same c.in-Ok.ensures.way)
