use Rattle.std.proofs.Common.{sym, w64}
use Rattle.std.proofs.lemmas.Int.{to_z-of_z}
use Rattle.input_tables.proofs.Paging.{found_row, missed_row}
use Rattle.input_tables.proofs.page.Page.get.Goals as goal

pub returns-in-Ok : goal.returns-in-Ok
returns-in-Ok c =
    let of_n = to_z-of_z w64 _ c.ranges.number in
    let place = rw of_n at c.in-Ok.ensures.place in
    let there = rw of_n at c.in-Ok.ensures.there in
    sym (found_row c.args.self.now c.args.number c.in-Ok.place place there c.values_at.result.now c.values_at.ensures)

pub returns-in-Err : goal.returns-in-Err
returns-in-Err c =
    let of_n = to_z-of_z w64 _ c.ranges.number in
    let place = rw of_n at c.in-Err.ensures.new_place in
    let absent = rw of_n at c.in-Err.ensures.absent in
    sym (missed_row c.args.self.now c.args.number c.in-Err.field-0 place c.requires absent)
