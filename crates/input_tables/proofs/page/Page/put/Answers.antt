use Rattle.std.proofs.Common.{◌≡◌, Some, None, sym, ap, ◌∙◌, w64}
use Rattle.std.proofs.lemmas.Int.{to_z-of_z}
use Rattle.meaning.specs.Tables.{row_of, is_there}
use Rattle.input_tables.proofs.Paging.{there_row, found_row, missed_row, put_found, put_missed}
use Rattle.input_tables.proofs.page.Page.put.Goals as goal

pub returns-in-Ok-clause-there : goal.returns-in-Ok-clause-there
returns-in-Ok-clause-there c =
    let of_n = to_z-of_z w64 _ c.ranges.number in
    let place = rw of_n at c.in-Ok.ensures.place in
    let there = rw of_n at c.in-Ok.ensures.there in
    sym (there_row c.args.self.now c.args.number c.in-Ok.place place there)

pub returns-in-Ok-clause-put : goal.returns-in-Ok-clause-put
returns-in-Ok-clause-put c =
    let of_n = to_z-of_z w64 _ c.ranges.number in
    let place = rw of_n at c.in-Ok.ensures.place in
    let there = rw of_n at c.in-Ok.ensures.there in
    c.replace_at.ensures c.args.number there ∙ put_found c.args.self.now c.args.number c.in-Ok.place place c.args.values.now there

pub returns-in_ok-insert_at-in-Err-clause-there : goal.returns-in_ok-insert_at-in-Err-clause-there
returns-in_ok-insert_at-in-Err-clause-there c =
    let of_n = to_z-of_z w64 _ c.ranges.number in
    let place = rw of_n at c.in-Err.ensures.new_place in
    let absent = rw of_n at c.in-Err.ensures.absent in
    sym (ap is_there (missed_row c.args.self.now c.args.number c.in-Err.place place c.requires.rising absent))

pub returns-in_ok-insert_at-in-Err-clause-put : goal.returns-in_ok-insert_at-in-Err-clause-put
returns-in_ok-insert_at-in-Err-clause-put c =
    let of_n = to_z-of_z w64 _ c.ranges.number in
    let place = rw of_n at c.in-Err.ensures.new_place in
    let absent = rw of_n at c.in-Err.ensures.absent in
    let new = rw of_n at c.in_ok-insert_at-in-Err.ensures.put in
    new ∙ put_missed c.args.self.now c.args.number c.in-Err.place place c.args.values.now absent

pub returns-in-Ok-clause-sums : goal.returns-in-Ok-clause-sums
returns-in-Ok-clause-sums c =
    let of_n = to_z-of_z w64 _ c.ranges.number in
    let place = rw of_n at c.in-Ok.ensures.place in
    let there = rw of_n at c.in-Ok.ensures.there in
    let row : row_of c.args.self.now c.args.number ≡ Some c.values_at.result.now = found_row c.args.self.now c.args.number c.in-Ok.place place there c.values_at.result.now c.values_at.ensures in
    rw row c.put_over.ensures

pub returns-in_ok-insert_at-in-Err-clause-sums : goal.returns-in_ok-insert_at-in-Err-clause-sums
returns-in_ok-insert_at-in-Err-clause-sums c =
    let of_n = to_z-of_z w64 _ c.ranges.number in
    let place = rw of_n at c.in-Err.ensures.new_place in
    let absent = rw of_n at c.in-Err.ensures.absent in
    let row : row_of c.args.self.now c.args.number ≡ None = missed_row c.args.self.now c.args.number c.in-Err.place place c.requires.rising absent in
    rw row c.put_on.ensures
