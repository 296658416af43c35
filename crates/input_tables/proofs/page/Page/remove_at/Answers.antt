use Rattle.std.proofs.Common.{rules, arith, vec_len, ◌≡◌, ◌<◌, List, length, sym, subst}
use Rattle.input_tables.specs.Rows.{Row}
use Rattle.input_tables.proofs.Laid.{row_within, length_rows, remove_laid, remove_long}
use Rattle.input_tables.proofs.page.Page.remove_at.Goals as goal

pub remove-requires : goal.remove-requires
remove-requires c =
    let p = c.self.inside in
    let i = c.args.place in
    let here = subst (λ (rows : List Row). i < length rows) (sym c.self.view_is) c.requires in
    let within : i < length p.numbers.items = subst (λ k. i < k) (length_rows p.width p.numbers.items p.cells.items) here in
    let long : vec_len p.numbers ≡ length p.numbers.items = search rules in
    omega (arith, long, within)

pub remove_row-requires : goal.remove_row-requires
remove_row-requires c =
    let p = c.self.inside in
    let i = c.args.place in
    let here = subst (λ (rows : List Row). i < length rows) (sym c.self.view_is) c.requires in
    let within : i < length p.numbers.items = subst (λ k. i < k) (length_rows p.width p.numbers.items p.cells.items) here in
    row_within p.width p.numbers.items p.cells.items c.self.invariant i within

pub invariant_of-self : goal.invariant_of-self
invariant_of-self c =
    let p = c.self.inside in
    let i = c.args.place in
    let here = subst (λ (rows : List Row). i < length rows) (sym c.self.view_is) c.requires in
    let within : i < length p.numbers.items = subst (λ k. i < k) (length_rows p.width p.numbers.items p.cells.items) here in
    rw (c.remove.ensures.items, c.remove_row.ensures) (remove_long p.width p.numbers.items p.cells.items c.self.invariant i within)

pub returns : goal.returns
returns c =
    let p = c.self.inside in
    let i = c.args.place in
    let here = subst (λ (rows : List Row). i < length rows) (sym c.self.view_is) c.requires in
    let within : i < length p.numbers.items = subst (λ k. i < k) (length_rows p.width p.numbers.items p.cells.items) here in
    rw (c.remove.ensures.items, c.remove_row.ensures, ← c.self.view_is) (remove_laid p.width p.numbers.items p.cells.items c.self.invariant i within)
