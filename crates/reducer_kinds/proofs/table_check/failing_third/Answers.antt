use Rattle.std.proofs.Common.{below_more, rules}
use Rattle.monoid_laws.specs.Tables.{Holds}
use Rattle.reducer_kinds.proofs.table_check.failing_third.Goals as goal

pub loop-c-preserved : goal.loop-c-preserved
loop-c-preserved c = λ z h.
    let here : Holds c.args.table.now c.args.a c.args.b c.loop-c.c = c.agrees.ensures.0 (search rules) in
    below_more (λ z. Holds c.args.table.now c.args.a c.args.b z) c.loop-c.c (λ z h. c.loop-c.invariant z h) here z h
