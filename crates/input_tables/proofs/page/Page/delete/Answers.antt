use Rattle.std.proofs.Common.{◌≡◌, Some, None, refl, sym, ap, ◌∙◌, w64}
use Rattle.std.proofs.lemmas.Int.{to_z-of_z}
use Rattle.meaning.specs.Tables.{row_of, is_there}
use Rattle.input_tables.proofs.Paging.{there_row, found_row, missed_row, gone_found, row_gone_absent}
use Rattle.input_tables.proofs.page.Page.delete.Goals as goal

pub returns-in-Ok-clause-there : goal.returns-in-Ok-clause-there
returns-in-Ok-clause-there c =
    let of_n = to_z-of_z w64 _ c.ranges.number in
    let place = rw of_n at c.in-Ok.ensures.place in
    let there = rw of_n at c.in-Ok.ensures.there in
    sym (there_row c.args.self.now c.args.number c.in-Ok.place place there)

pub returns-in-Ok-clause-gone : goal.returns-in-Ok-clause-gone
returns-in-Ok-clause-gone c =
    let of_n = to_z-of_z w64 _ c.ranges.number in
    let place = rw of_n at c.in-Ok.ensures.place in
    let there = rw of_n at c.in-Ok.ensures.there in
    c.remove_at.ensures ∙ gone_found c.args.self.now c.args.number c.in-Ok.place place there

pub returns-in-Err-clause-there : goal.returns-in-Err-clause-there
returns-in-Err-clause-there c =
    let of_n = to_z-of_z w64 _ c.ranges.number in
    let place = rw of_n at c.in-Err.ensures.new_place in
    let absent = rw of_n at c.in-Err.ensures.absent in
    sym (ap is_there (missed_row c.args.self.now c.args.number c.in-Err.field-0 place c.requires absent))

pub returns-in-Err-clause-gone : goal.returns-in-Err-clause-gone
returns-in-Err-clause-gone c =
    let of_n = to_z-of_z w64 _ c.ranges.number in
    let place = rw of_n at c.in-Err.ensures.new_place in
    let absent = rw of_n at c.in-Err.ensures.absent in
    sym (row_gone_absent c.args.number c.args.self.now (missed_row c.args.self.now c.args.number c.in-Err.field-0 place c.requires absent))

pub returns-in-Ok-clause-sums : goal.returns-in-Ok-clause-sums
returns-in-Ok-clause-sums c =
    let of_n = to_z-of_z w64 _ c.ranges.number in
    let place = rw of_n at c.in-Ok.ensures.place in
    let there = rw of_n at c.in-Ok.ensures.there in
    let row : row_of c.args.self.now c.args.number ≡ Some c.values_at.result.now = found_row c.args.self.now c.args.number c.in-Ok.place place there c.values_at.result.now c.values_at.ensures in
    rw row c.take_off.ensures

pub returns-in-Err-clause-sums : goal.returns-in-Err-clause-sums
returns-in-Err-clause-sums c =
    let of_n = to_z-of_z w64 _ c.ranges.number in
    let place = rw of_n at c.in-Err.ensures.new_place in
    let absent = rw of_n at c.in-Err.ensures.absent in
    let row : row_of c.args.self.now c.args.number ≡ None = missed_row c.args.self.now c.args.number c.in-Err.field-0 place c.requires absent in
    rw row refl
