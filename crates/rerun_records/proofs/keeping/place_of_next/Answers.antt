use Rattle.std.proofs.Common.{arith}
use Rattle.rerun_records.proofs.Moving.{none_kept}
use Rattle.rerun_records.proofs.keeping.place_of_next.Goals as goal

pub returns-then-newest-eq0-clause-place : goal.returns-then-newest-eq0-clause-place
returns-then-newest-eq0-clause-place c = λ made there.
    none_kept c.args.list.now c.args.kept c.args.places.now.numbers c.args.number made c.newest.result (let k = c.requires.kept in let w = c.requires.within in omega (arith, k, w)) c.requires.numbered
    (c.requires.number made there) c.newest.ensures.newest c.if-newest-eq0.true
