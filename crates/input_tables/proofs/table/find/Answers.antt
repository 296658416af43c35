use Rattle.std.proofs.Common.{◌≡◌, ◌≤◌, Some, None, false, ltb, length, refl, ap, sym, ◌∙◌, arith}
use Rattle.std.proofs.lemmas.Bool.Decides.{nat_tests}
use Rattle.std.proofs.lemmas.Option.{slice_get_past, slice_get_read}
use Rattle.std.specs.Prelude.{slice_get}
use Rattle.input_tables.proofs.Numbered.{table_of-place}
use Rattle.input_tables.proofs.table.find.Goals as goal

pub returns-in-Some-clause-found : goal.returns-in-Some-clause-found
returns-in-Some-clause-found c =
    let ts = c.args.tables.now in
    let n = c.index_of-number.result in
    let there : slice_get ts n ≡ Some c.in-Some.table.now = slice_get_read ts _ n c.in-Some.table.now refl c.in-Some.ensures.lookup.3.0 c.in-Some.ensures.lookup.1 in
    sym there ∙ ap (slice_get ts) c.index_of-number.ensures.place ∙ table_of-place ts c.args.name.now

pub returns-in-None-clause-found : goal.returns-in-None-clause-found
returns-in-None-clause-found c =
    let ts = c.args.tables.now in
    let n = c.index_of-number.result in
    let test : ltb n (length ts) ≡ false = sym c.in-None.ensures.lookup.0 in
    let past : length ts ≤ n = grind (arith, nat_tests) in
    let none : slice_get ts n ≡ None = slice_get_past ts n past in
    sym none ∙ ap (slice_get ts) c.index_of-number.ensures.place ∙ table_of-place ts c.args.name.now
