use Rattle.std.proofs.Common.{[], arith}
use Rattle.rerun_records.proofs.Passing.{done_pass}
use Rattle.rerun_records.proofs.skips.done_then.Goals as goal

pub returns : goal.returns
returns c = record {
  held = λ records h.
      let full = h.full in
      let less = c.if-last-done.false in
      done_pass [] records c.args.done c.last_end-last.result c.args.skips.now h (omega (arith, full, less)) (λ i s at. c.last_end-last.ensures.last [] records c.args.done h i s at);
}
