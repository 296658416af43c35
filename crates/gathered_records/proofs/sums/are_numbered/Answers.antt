use Rattle.std.proofs.Common.{rules, ◌≡◌, ◌<◌, length}
use Rattle.gathered_records.proofs.Summed.{numbered_more}
use Rattle.gathered_records.proofs.sums.are_numbered.Goals as goal

pub loop-place-preserved : goal.loop-place-preserved
loop-place-preserved c =
    let within : c.loop-place.place < length c.args.values.now = search rules in
    let at : c.index-values-place.result.0 ≡ c.loop-place.place = search rules in
    λ rest. c.loop-place.invariant (numbered_more c.args.values.now c.loop-place.place c.index-values-place.result within c.index-values-place.is at rest)
