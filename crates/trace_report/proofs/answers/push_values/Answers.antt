use Rattle.trace_report.proofs.Totals.{all_written}
use Rattle.trace_report.proofs.answers.push_values.Goals as goal

pub returns : goal.returns
returns c = all_written _ _ _ _ _ c.loop-declaration-test.false c.loop-declaration.invariant
