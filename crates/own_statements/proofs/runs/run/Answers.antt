use Rattle.std.proofs.Common.{rules, ℤ, Some, subst, ◌≡◌, to_z, of_z, w64}
use Rattle.activations.specs.Given.{lent}
use Rattle.own_statements.specs.Paths.{ComesTo}
use Rattle.own_statements.proofs.Paths.{end_join}
use Rattle.own_statements.proofs.runs.run.Goals as goal

pub run_from-requires-clause-block : goal.run_from-requires-clause-block
run_from-requires-clause-block g c κs within = (c.in-On.ensures.runs c.args.passes_syncs c.args.layer.now c.args.above.now).1

pub returns-in-On-clause-ahead : goal.returns-in-On-clause-ahead
returns-in-On-clause-ahead g c =
    end_join (lent c.args.setting) c.args.passes_syncs c.args.top.now c.args.layer.now _ c.args.layer.now c.run_from.result c.run_from.new.top c.run_from.new.above c.run_from.new.layer
    (c.in-On.ensures.runs c.args.passes_syncs c.args.layer.now c.args.above.now).0 c.run_from.ensures.ahead

pub returns-in-Gave-clause-ahead : goal.returns-in-Gave-clause-ahead
returns-in-Gave-clause-ahead g c =
    let S = lent c.args.setting in
    let same : c.in-Gave.value ≡ to_z w64 (of_z w64 c.in-Gave.value) = search rules in
    subst (λ (v : ℤ). ComesTo S c.args.passes_syncs c.args.top.now c.args.layer.now (Some v) c.args.top.now c.args.layer.now) same
    (c.in-Gave.ensures.runs c.args.passes_syncs c.args.layer.now c.args.above.now)

pub returns-in-Stopped-clause-ahead : goal.returns-in-Stopped-clause-ahead
returns-in-Stopped-clause-ahead g c = c.in-Stopped.ensures.runs c.args.passes_syncs c.args.layer.now c.args.above.now
