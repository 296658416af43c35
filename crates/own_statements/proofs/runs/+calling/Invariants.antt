use Rattle.std.proofs.Common.{◌≡◌, ◌-◌, ◌+◌, ◌*◌, length, None}
use Rattle.positions.specs.declared.work.Work.TheVariants.{Block}
use Rattle.positions.specs.Activations.{at}
use Rattle.activations.specs.Given.{lent}
use Rattle.own_statements.specs.Paths.{ComesTo, IsInBlock}
use Rattle.own_statements.specs.Runs.{IsBlock}
use Rattle.own_statements.proofs.runs.+calling.Given as goal

abbrev pub invariant-run_block-loop-index : goal.invariant-run_block-loop-index
invariant-run_block-loop-index g l = record {
  kinds : l.layer.kinds ≡ l.fn.layer.kinds;
  long : length l.above ≡ length l.fn.above;
  same : IsInBlock l.fn.top l.top;
  come : ComesTo (lent l.setting) l.passes_syncs (at (Block l.fn.rest.position) l.fn.top) l.fn.layer None (at (Block (record { block = l.block; index = l.index })) l.top) l.layer;
}

abbrev pub decreases-run_block-loop-index : goal.decreases-run_block-loop-index
decreases-run_block-loop-index g l = length l.statements - l.index

abbrev pub invariant-run_from-loop : goal.invariant-run_from-loop
invariant-run_from-loop g l = record {
  kinds : l.layer.kinds ≡ l.fn.layer.kinds;
  long : length l.above ≡ length l.fn.above;
  block : IsBlock l.setting.program.now.codes l.top l.position.block l.statements;
  come : ComesTo (lent l.setting) l.passes_syncs (at (Block l.fn.rest.position) l.fn.top) l.fn.layer None (at (Block l.position) l.top) l.layer;
}

abbrev pub decreases-call_inside : goal.decreases-call_inside
decreases-call_inside g l = length l.above.now * 5

abbrev pub decreases-enters : goal.decreases-enters
decreases-enters g l = length l.above.now * 5 + 1

abbrev pub decreases-run_block : goal.decreases-run_block
decreases-run_block g l = length l.above.now * 5 + 2

abbrev pub decreases-run_from : goal.decreases-run_from
decreases-run_from g l = length l.above.now * 5 + 3

abbrev pub decreases-call : goal.decreases-call
decreases-call g l = length l.above.now * 5 + 4
