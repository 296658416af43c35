use Rattle.std.proofs.Common.{List, refl, ap, ◌∙◌}
use Rattle.meaning.specs.Records.{Kept}
use Rattle.record_theory.specs.Named.{AreKept}
use Rattle.positions.specs.Setting.{IsLinked, HasItsTables, HasItsRecords, setting_with}
use Rattle.positions.specs.Strands.{PlainStrand}
use Rattle.answered_loops.specs.Ways.{IsWay, IsWayOf}
use Rattle.answered_loops.proofs.Ways.{ways_of}
use Rattle.activations.specs.Given.{setting_over}
use Rattle.frames.proofs.Replays.{on_ok, whole_after, way_then, lower_then, kinds_then}
use Rattle.frames.proofs.strand.Strand.answer_ahead.Goals as goal

pub invariant_of-self : goal.invariant_of-self
invariant_of-self g c = whole_after (setting_over c.args.program.now c.args.tables.now c.args.records.now) c.answer_ahead.result c.self.inside.machine c.answer_ahead.new.machine c.answer_ahead.ensures.ahead c.answer_ahead.ensures.refused c.self.invariant

pub returns-clause-way : goal.returns-clause-way
returns-clause-way g c = way_then (setting_over c.args.program.now c.args.tables.now c.args.records.now) c.answer_ahead.result c.self.inside.machine c.args.self.now c.answer_ahead.new.machine c.self.view_is c.answer_ahead.ensures.ahead

pub returns-clause-steps : goal.returns-clause-steps
returns-clause-steps g c =
    let G = setting_over c.args.program.now c.args.tables.now c.args.records.now in
    let s = c.args.self.now in
    let t = c.answer_ahead.new.machine in
    on_ok c.answer_ahead.result (IsWay G s t)
    ((kept : List Kept) → AreKept c.args.program.now kept c.args.records.now → HasItsTables (setting_with c.args.program.now c.args.tables.now.tables kept c.args.records.now)
    → IsWayOf (setting_with c.args.program.now c.args.tables.now.tables kept c.args.records.now) s t)
    (λ way kept are same.
    let i = setting_with c.args.program.now c.args.tables.now.tables kept c.args.records.now in
    let linked : IsLinked i = record { codes = c.linked.ensures.codes; kinds = c.linked.ensures.kinds } in
    let known : HasItsRecords i = record { records = are; recording = refl; in_order = c.revised.ensures.each } in
    ways_of G i.memory same linked known s t way)
    (returns-clause-way g c)

pub returns-clause-lower : goal.returns-clause-lower
returns-clause-lower g c =
    lower_then (setting_over c.args.program.now c.args.tables.now c.args.records.now) c.answer_ahead.result c.self.inside.machine c.answer_ahead.new.machine c.answer_ahead.ensures.ahead c.answer_ahead.ensures.refused ∙ ap (λ (s : PlainStrand). s.lower) c.self.view_is

pub returns-clause-kinds : goal.returns-clause-kinds
returns-clause-kinds g c =
    kinds_then (setting_over c.args.program.now c.args.tables.now c.args.records.now) c.answer_ahead.result c.self.inside.machine c.answer_ahead.new.machine c.answer_ahead.ensures.ahead c.answer_ahead.ensures.refused ∙ ap (λ (s : PlainStrand). s.layer.kinds) c.self.view_is
