use Rattle.std.proofs.Common.{◌<◌, List, length, sym, subst}
use Rattle.std.specs.Prelude.{slice_get}
use Rattle.input_tables.specs.Pages.{IsOf}
use Rattle.input_tables.specs.Rows.{Row, AreWide, rows_of}
use Rattle.input_tables.proofs.Laid.{row_within, length_rows, set_laid, set_long, width_is, has_rows}
use Rattle.input_tables.proofs.page.Page.replace_at.Goals as goal

pub replace_row-requires : goal.replace_row-requires
replace_row-requires c =
    let p = c.self.inside in
    let i = c.args.place in
    let here = subst (λ (rows : List Row). i < length rows) (sym c.self.view_is) c.requires.within in
    let within : i < length p.numbers.items = subst (λ k. i < k) (length_rows p.width p.numbers.items p.cells.items) here in
    let wide = subst (AreWide (length c.args.values.now)) (sym c.self.view_is) c.requires.wide in
    let many = width_is p.width p.numbers.items p.cells.items c.self.invariant _ (has_rows _ i here) wide in
    rw many (row_within p.width p.numbers.items p.cells.items c.self.invariant i within)

pub invariant_of-self : goal.invariant_of-self
invariant_of-self c =
    let p = c.self.inside in
    let i = c.args.place in
    let here = subst (λ (rows : List Row). i < length rows) (sym c.self.view_is) c.requires.within in
    let within : i < length p.numbers.items = subst (λ k. i < k) (length_rows p.width p.numbers.items p.cells.items) here in
    let wide = subst (AreWide (length c.args.values.now)) (sym c.self.view_is) c.requires.wide in
    let many = width_is p.width p.numbers.items p.cells.items c.self.invariant _ (has_rows _ i here) wide in
    let cells = rw many at c.replace_row.ensures in
    rw cells (set_long p.width p.numbers.items p.cells.items c.self.invariant i c.args.values.now many within)

pub returns : goal.returns
returns c = λ n is.
    let p = c.self.inside in
    let i = c.args.place in
    let here = subst (λ (rows : List Row). i < length rows) (sym c.self.view_is) c.requires.within in
    let within : i < length p.numbers.items = subst (λ k. i < k) (length_rows p.width p.numbers.items p.cells.items) here in
    let wide = subst (AreWide (length c.args.values.now)) (sym c.self.view_is) c.requires.wide in
    let many = width_is p.width p.numbers.items p.cells.items c.self.invariant _ (has_rows _ i here) wide in
    let there : IsOf n (slice_get (rows_of p.width p.numbers.items p.cells.items) i) = subst (λ (rows : List Row). IsOf n (slice_get rows i)) (sym c.self.view_is) is in
    let cells = rw many at c.replace_row.ensures in
    rw (cells, ← c.self.view_is) (set_laid p.width p.numbers.items p.cells.items c.self.invariant i n c.args.values.now many within there)
