use Rattle.std.proofs.Common.{rules, ◌≡◌, ◌<◌, length, Some, ap, sym, ◌∙◌, w64, FitsSigned}
use Rattle.std.proofs.lemmas.Int.{to_z-of_z}
use Rattle.std.proofs.lemmas.Option.{slice_get-get_or}
use Rattle.std.specs.Prelude.{slice_get}
use Rattle.input_tables.specs.Pages.{page_of}
use Rattle.input_tables.proofs.PageEdits.{row_via_page, row_off_pages, rising_of}
use Rattle.input_tables.proofs.rows.Rows.get.Goals as goal

pub returns-in-Ok : goal.returns-in-Ok
returns-in-Ok c =
    let ps = c.self.inside.pages.items in
    let n = c.args.number in
    let of_n = to_z-of_z w64 n c.ranges.number in
    let fits : FitsSigned w64 c.page_of-page.result = search rules in
    let number = to_z-of_z w64 c.page_of-page.result fits ∙ c.page_of-page.ensures ∙ ap page_of of_n in
    let place = rw c.deref.ensures.value at c.in-Ok.ensures.place in
    let there = rw c.deref.ensures.value at c.in-Ok.ensures.there in
    let q = c.index.result.now in
    let within : c.in-Ok.place < length ps = rw c.deref.ensures.value at c.in-Ok.ensures.within in
    let here : slice_get ps c.in-Ok.place ≡ Some q = slice_get-get_or ps c.in-Ok.place q within ∙ ap Some (sym c.index.ensures) in
    rw (← c.self.view_is) (rw of_n at c.get.ensures ∙ row_via_page ps _ n c.in-Ok.place number c.self.invariant.0 c.self.invariant.1 place q here there)

pub returns-in-Err : goal.returns-in-Err
returns-in-Err c =
    let ps = c.self.inside.pages.items in
    let n = c.args.number in
    let of_n = to_z-of_z w64 n c.ranges.number in
    let fits : FitsSigned w64 c.page_of-page.result = search rules in
    let number = to_z-of_z w64 c.page_of-page.result fits ∙ c.page_of-page.ensures ∙ ap page_of of_n in
    let place = rw c.deref.ensures.value at c.in-Err.ensures.new_place in
    let absent = rw c.deref.ensures.value at c.in-Err.ensures.absent in
    rw (← c.self.view_is) (sym (row_off_pages ps _ n c.in-Err.field-0 number c.self.invariant.0 c.self.invariant.1 place absent))

pub get-requires : goal.get-requires
get-requires c =
    let ps = c.self.inside.pages.items in
    let n = c.args.number in
    let of_n = to_z-of_z w64 n c.ranges.number in
    let fits : FitsSigned w64 c.page_of-page.result = search rules in
    let number = to_z-of_z w64 c.page_of-page.result fits ∙ c.page_of-page.ensures ∙ ap page_of of_n in
    let place = rw c.deref.ensures.value at c.in-Ok.ensures.place in
    let there = rw c.deref.ensures.value at c.in-Ok.ensures.there in
    let q = c.index.result.now in
    let within : c.in-Ok.place < length ps = rw c.deref.ensures.value at c.in-Ok.ensures.within in
    let here : slice_get ps c.in-Ok.place ≡ Some q = slice_get-get_or ps c.in-Ok.place q within ∙ ap Some (sym c.index.ensures) in
    rising_of ps _ n c.in-Ok.place number c.self.invariant.0 c.self.invariant.1 place q here
