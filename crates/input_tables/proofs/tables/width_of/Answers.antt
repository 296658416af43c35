use Rattle.std.proofs.Common.{◌≡◌, ◌≤◌, Some, None, false, ltb, length, refl, ap, sym, ◌∙◌, arith}
use Rattle.std.proofs.lemmas.Bool.Decides.{nat_tests}
use Rattle.std.proofs.lemmas.Option.{slice_get_past, slice_get_read}
use Rattle.std.specs.Prelude.{slice_get}
use Rattle.input_tables.proofs.Numbered.{columns_at-there, columns_at-absent}
use Rattle.input_tables.proofs.tables.width_of.Goals as goal

pub returns-in-Some : goal.returns-in-Some
returns-in-Some c =
    let ts = c.args.tables.now in
    let n = c.args.number in
    let there : slice_get ts n ≡ Some c.in-Some.table.now = slice_get_read ts _ n c.in-Some.table.now refl c.in-Some.ensures.lookup.3.0 c.in-Some.ensures.lookup.1 in
    record { many = c.column_count.ensures ∙ ap length (sym (columns_at-there ts n c.in-Some.table.now there)) }

pub returns-in-None : goal.returns-in-None
returns-in-None c =
    let ts = c.args.tables.now in
    let n = c.args.number in
    let test : ltb n (length ts) ≡ false = sym c.in-None.ensures.lookup.0 in
    let past : length ts ≤ n = grind (arith, nat_tests) in
    let none : slice_get ts n ≡ None = slice_get_past ts n past in
    record { many = rw (columns_at-absent ts n none) refl }
