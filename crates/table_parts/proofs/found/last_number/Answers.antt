use Rattle.std.proofs.Common.{rules, sym, w64, FitsSigned}
use Rattle.std.proofs.lemmas.Int.{to_z-of_z}
use Rattle.table_parts.proofs.Lasts as lasts
use Rattle.table_parts.proofs.found.last_number.Goals as goal

pub returns-in-Some : goal.returns-in-Some
returns-in-Some c =
    let fits : FitsSigned w64 c.in-Some.row.now.0 = search rules in
    rw (to_z-of_z w64 _ fits) (sym (lasts.last_number c.args.numbers.now c.in-Some.row.now (sym c.in-Some.ensures.value)))
