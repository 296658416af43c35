use Rattle.std.proofs.Common.{◌<◌, List, length, sym, subst}
use Rattle.input_tables.specs.Rows.{Row}
use Rattle.input_tables.proofs.Laid.{row_within, length_rows, get_within}
use Rattle.input_tables.proofs.page.Page.values_at.Goals as goal

pub cells_at-requires : goal.cells_at-requires
cells_at-requires c =
    let p = c.self.inside in
    let within = subst (λ (rows : List Row). c.args.place < length rows) (sym c.self.view_is) c.requires in
    rw c.deref.ensures.value (row_within p.width p.numbers.items p.cells.items c.self.invariant c.args.place
    (subst (λ k. c.args.place < k) (length_rows p.width p.numbers.items p.cells.items) within))

pub returns : goal.returns
returns c =
    let p = c.self.inside in
    let within = subst (λ (rows : List Row). c.args.place < length rows) (sym c.self.view_is) c.requires in
    let cells = rw c.deref.ensures.value at c.cells_at.ensures in
    rw (← c.self.view_is, cells) (get_within p.width p.numbers.items p.cells.items c.self.invariant c.args.place within)
