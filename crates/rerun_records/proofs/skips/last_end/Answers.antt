use Rattle.std.proofs.Common.{◌-◌, length, arith}
use Rattle.std.proofs.lemmas.Option.{slice_get_within}
use Rattle.rerun_records.proofs.Passing.{ends_before}
use Rattle.rerun_records.proofs.skips.last_end.Goals as goal

pub returns : goal.returns
returns c = record {
  last = λ places records done h i s at.
      let skips = c.args.skips.now in
      let within = slice_get_within skips i s at in
      let is = c.until.ensures.until in
      ends_before places records done skips (length skips - 1) c.until.result c.index-skips-last.result h (omega (arith, within)) c.index-skips-last.is (omega (arith, is)) i s (omega (arith, within)) at;
}
