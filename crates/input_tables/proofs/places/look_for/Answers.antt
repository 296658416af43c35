use Rattle.std.proofs.Common.{◌≡◌, ◌≤◌, None, length, arith, sym, false, ltb}
use Rattle.std.proofs.lemmas.Bool.Decides.{nat_tests}
use Rattle.std.proofs.lemmas.Option.{slice_get_past}
use Rattle.std.specs.Prelude.{slice_get}
use Rattle.input_tables.proofs.Orders.{place_within}
use Rattle.input_tables.proofs.places.look_for.Goals as goal

pub returns-in-None-clause-upto_end : goal.returns-in-None-clause-upto_end
returns-in-None-clause-upto_end g c = rw c.search-place.ensures (place_within _ c.args.entries.now)

pub returns-in-None-clause-absent : goal.returns-in-None-clause-absent
returns-in-None-clause-absent g c =
    let test : ltb c.search-place.result (length c.args.entries.now) ≡ false = sym c.in-None.ensures.lookup.0 in
    let past : length c.args.entries.now ≤ c.search-place.result = grind (arith, nat_tests) in
    let none : slice_get c.args.entries.now c.search-place.result ≡ None = slice_get_past c.args.entries.now c.search-place.result past in
    rw none tt
