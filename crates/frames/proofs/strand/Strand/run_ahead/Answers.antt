use Rattle.std.proofs.Common.{refl, subst}
use Rattle.positions.specs.Setting.{IsLinked, HasItsRecords, setting_with}
use Rattle.positions.specs.Strands.{PlainStrand}
use Rattle.activations.specs.Given.{setting_over}
use Rattle.answered_loops.specs.Ways.{IsWay}
use Rattle.answered_loops.proofs.Ways.{ways_of}
use Rattle.frames.proofs.Traces.{ahead_whole}
use Rattle.frames.proofs.strand.Strand.run_ahead.Goals as goal

pub invariant_of-self : goal.invariant_of-self
invariant_of-self g c = ahead_whole (setting_over c.args.program.now c.args.tables.now c.args.records.now) c.self.inside.machine c.run_ahead.new.machine c.run_ahead.ensures.ahead c.self.invariant

pub returns-clause-way : goal.returns-clause-way
returns-clause-way g c = subst (λ (s : PlainStrand). IsWay (setting_over c.args.program.now c.args.tables.now c.args.records.now) s c.run_ahead.new.machine) c.self.view_is c.run_ahead.ensures.ahead.way

pub returns-clause-steps : goal.returns-clause-steps
returns-clause-steps g c kept are same =
    let i = setting_with c.args.program.now c.args.tables.now.tables kept c.args.records.now in
    let linked : IsLinked i = record { codes = c.linked.ensures.codes; kinds = c.linked.ensures.kinds } in
    let known : HasItsRecords i = record { records = are; recording = refl; in_order = c.revised.ensures.each } in
    ways_of (setting_over c.args.program.now c.args.tables.now c.args.records.now) i.memory same linked known c.args.self.now c.run_ahead.new.machine (returns-clause-way g c)
