use Rattle.std.proofs.Common.{rules, arith, vec_len, ◌≡◌, ◌≤◌, ◌+◌, List, length, sym, subst, w64}
use Rattle.std.proofs.lemmas.Int.{to_z-of_z}
use Rattle.input_tables.specs.Rows.{Row, AreWide}
use Rattle.input_tables.specs.Pages.{HasRows}
use Rattle.input_tables.proofs.Laid.{begin_within, length_rows, insert_laid, insert_long, width_is, remove_insert}
use Rattle.input_tables.proofs.PageEdits.{inserted, refused, accepted}
use Rattle.input_tables.proofs.page.Page.insert_at.Goals as goal

pub insert-requires : goal.insert-requires
insert-requires c =
    let p = c.self.inside in
    let i = c.args.place in
    let here = subst (λ (rows : List Row). i ≤ length rows) (sym c.self.view_is) c.requires.upto_end in
    let upto : i ≤ length p.numbers.items = subst (λ k. i ≤ k) (length_rows p.width p.numbers.items p.cells.items) here in
    let long : vec_len p.numbers ≡ length p.numbers.items = search rules in
    omega (arith, long, upto)

pub insert_row-requires : goal.insert_row-requires
insert_row-requires c =
    let p = c.self.inside in
    let i = c.args.place in
    let here = subst (λ (rows : List Row). i ≤ length rows) (sym c.self.view_is) c.requires.upto_end in
    let upto : i ≤ length p.numbers.items = subst (λ k. i ≤ k) (length_rows p.width p.numbers.items p.cells.items) here in
    let wide = subst (AreWide (length c.args.values.now)) (sym c.self.view_is) c.requires.wide in
    let many = width_is p.width p.numbers.items p.cells.items c.self.invariant _ (subst HasRows (sym c.self.view_is) c.requires.rows) wide in
    rw many (begin_within p.width p.numbers.items p.cells.items c.self.invariant i upto)

pub remove-requires : goal.remove-requires
remove-requires c =
    let p = c.self.inside in
    let i = c.args.place in
    let here = subst (λ (rows : List Row). i ≤ length rows) (sym c.self.view_is) c.requires.upto_end in
    let upto : i ≤ length p.numbers.items = subst (λ k. i ≤ k) (length_rows p.width p.numbers.items p.cells.items) here in
    let long : vec_len p.numbers ≡ length p.numbers.items = search rules in
    let more : vec_len c.insert.new.self ≡ vec_len p.numbers + 1 = inserted c.insert.result _ _ _ _ c.is_err.ensures.value c.if-is_err.false c.insert.ensures.len in
    omega (arith, long, more, upto)

pub returns-then-is_err-2-clause-same : goal.returns-then-is_err-2-clause-same
returns-then-is_err-2-clause-same c =
    let p = c.self.inside in
    let i = c.args.place in
    let here = subst (λ (rows : List Row). i ≤ length rows) (sym c.self.view_is) c.requires.upto_end in
    let upto : i ≤ length p.numbers.items = subst (λ k. i ≤ k) (length_rows p.width p.numbers.items p.cells.items) here in
    let more = inserted c.insert.result _ _ _ _ c.is_err.ensures.value c.if-is_err.false c.insert.ensures.items in
    let cells = refused c.insert_row.result _ c.is_err-2.ensures.value c.if-is_err-2.true c.insert_row.ensures.same in
    rw (c.remove.ensures.items, more, cells, remove_insert p.numbers.items i _ upto) c.self.view_is

pub invariant_of-self-else-is_err-2 : goal.invariant_of-self-else-is_err-2
invariant_of-self-else-is_err-2 c =
    let p = c.self.inside in
    let i = c.args.place in
    let here = subst (λ (rows : List Row). i ≤ length rows) (sym c.self.view_is) c.requires.upto_end in
    let upto : i ≤ length p.numbers.items = subst (λ k. i ≤ k) (length_rows p.width p.numbers.items p.cells.items) here in
    let wide = subst (AreWide (length c.args.values.now)) (sym c.self.view_is) c.requires.wide in
    let many = width_is p.width p.numbers.items p.cells.items c.self.invariant _ (subst HasRows (sym c.self.view_is) c.requires.rows) wide in
    let more = rw (to_z-of_z w64 _ c.ranges.number) at (inserted c.insert.result _ _ _ _ c.is_err.ensures.value c.if-is_err.false c.insert.ensures.items) in
    let cells = rw many at (accepted c.insert_row.result _ c.is_err-2.ensures.value c.if-is_err-2.false c.insert_row.ensures.put) in
    rw (more, cells) (insert_long p.width p.numbers.items p.cells.items c.self.invariant i c.args.number c.args.values.now many upto)

pub returns-clause-put : goal.returns-clause-put
returns-clause-put c =
    let p = c.self.inside in
    let i = c.args.place in
    let here = subst (λ (rows : List Row). i ≤ length rows) (sym c.self.view_is) c.requires.upto_end in
    let upto : i ≤ length p.numbers.items = subst (λ k. i ≤ k) (length_rows p.width p.numbers.items p.cells.items) here in
    let wide = subst (AreWide (length c.args.values.now)) (sym c.self.view_is) c.requires.wide in
    let many = width_is p.width p.numbers.items p.cells.items c.self.invariant _ (subst HasRows (sym c.self.view_is) c.requires.rows) wide in
    let more = rw (to_z-of_z w64 _ c.ranges.number) at (inserted c.insert.result _ _ _ _ c.is_err.ensures.value c.if-is_err.false c.insert.ensures.items) in
    let cells = rw many at (accepted c.insert_row.result _ c.is_err-2.ensures.value c.if-is_err-2.false c.insert_row.ensures.put) in
    rw (more, cells, ← c.self.view_is) (insert_laid p.width p.numbers.items p.cells.items c.self.invariant i c.args.number c.args.values.now many upto)
