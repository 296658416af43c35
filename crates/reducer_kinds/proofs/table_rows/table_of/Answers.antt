use Rattle.std.proofs.Common.{rules, ◌≤◌, ◌*◌, arith}
use Rattle.reducer_kinds.proofs.Zeros.{zero_of, zeros_behind}
use Rattle.reducer_kinds.proofs.table_rows.table_of.Goals as goal

pub loop-i-init : goal.loop-i-init
loop-i-init c = record {
  unit_in = search rules;
  few = search rules;
  count = search rules;
  kept = search rules;
  below = search rules;
  copied = search rules;
  rest = λ k le. zero_of 256 k;
}

pub invariant_of-result-clause-rest_zero : goal.invariant_of-result-clause-rest_zero
invariant_of-result-clause-rest_zero c =
    let n : c.loop-i.i ≤ c.args.size * c.args.size = omega (arith, c.loop-i.auto.i-end, c.loop-i.invariant.count) in
    zeros_behind (c.args.size * c.args.size) 256 c.loop-i.cells c.loop-i.invariant.kept (λ k le. c.loop-i.invariant.rest k (omega (arith, n, le)))
