use Rattle.std.proofs.Common.{◌<◌, length, arith}
use Rattle.rerun_records.proofs.listing.place_near.Goals as goal

pub returns-then-is_there-clause-number : goal.returns-then-is_there-clause-number
returns-then-is_there-clause-number c = λ behind.
    let within : c.args.near < length c.args.list.now = c.is_there.ensures.within c.if-is_there.true in
    absurd (omega (arith, within, behind))
