use Rattle.std.proofs.Common.{Some, ap, sym, ◌∙◌}
use Rattle.std.proofs.lemmas.Option.{slice_get-get_or}
use Rattle.rerun_records.proofs.Passing.{apart_there}
use Rattle.rerun_records.proofs.skips.apart_by.Goals as goal

pub returns-clause-apart : goal.returns-clause-apart
returns-clause-apart c = λ records done h.
    let skips = c.args.skips.now in
    let skip = c.index-skips-number.result in
    let there = slice_get-get_or skips c.args.number skip c.requires.within ∙ ap Some (sym c.index-skips-number.is) in
    apart_there records done skips c.args.change.now c.args.number skip c.apart_to.result c.args.end h there c.apart_to.ensures.apart
