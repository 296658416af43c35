use Rattle.std.proofs.Common.{rules, ◌≡◌, Some, ap, sym, refl, w64, FitsSigned}
use Rattle.std.proofs.lemmas.Int.{to_z-of_z}
use Rattle.std.proofs.lemmas.Option.{slice_get_read}
use Rattle.std.specs.Int.{cast_signed}
use Rattle.std.specs.Prelude.{slice_get}
use Rattle.input_tables.proofs.Orders.{place_there}
use Rattle.input_tables.proofs.places.find.Goals as goal

pub returns-in-Some-clause-place : goal.returns-in-Some-clause-place
returns-in-Some-clause-place g c =
    let e = c.in-Some.entry.now in
    let f : FitsSigned w64 c.args.number = c.ranges.number in
    let fits : FitsSigned w64 e.0 = search rules in
    let is : e.0 ≡ c.args.number = simp to_z-of_z at (ap (cast_signed w64) c.if-entry-number.true) in
    let there : slice_get c.args.entries.now c.args.guess ≡ Some e =
    slice_get_read c.args.entries.now _ c.args.guess e refl c.in-Some.ensures.lookup.3.0 c.in-Some.ensures.lookup.1 in
    sym (place_there c.args.number c.args.entries.now c.args.guess e c.requires there is)
