use Rattle.std.proofs.Common.{string_bytes}
use Rattle.std.proofs.lemmas.List.{take_min, take-map}
use Rattle.single_rules.proofs.heads.repeats_parameter.Goals as goal

pub returns : goal.returns
returns c =
    let k = c.args.procedure.now.parameters in
    let xs = c.args.procedure.now.names.items in
    let e = take_min k xs in
    let f = take-map string_bytes k xs in
    cc
