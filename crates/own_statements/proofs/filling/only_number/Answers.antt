use Rattle.std.proofs.Common.{rules, ◌≡◌, ◌<◌, Some, length, slice_get, refl}
use Rattle.std.proofs.lemmas.Option.{slice_get_read}
use Rattle.own_statements.proofs.Placed.{only_value}
use Rattle.own_statements.proofs.filling.only_number.Goals as goal

pub returns : goal.returns
returns c =
    let es = c.args.arguments.now in
    let e = c.index-arguments-0.result in
    let one : length es ≡ 1 = search rules in
    let some : 0 < length es = search rules in
    let there : slice_get es 0 ≡ Some e = slice_get_read es (length es) 0 e refl some c.index-arguments-0.is in
    record { value = only_value c.args.slots.now es e c.plain_number.result one there c.plain_number.ensures.value }
