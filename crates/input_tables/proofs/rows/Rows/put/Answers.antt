use Rattle.std.proofs.Common.{rules, ◌≡◌, ◌<◌, length, Some, ap, sym, ◌∙◌, w64, subst, FitsSigned}
use Rattle.std.proofs.lemmas.Int.{to_z-of_z}
use Rattle.std.proofs.lemmas.Option.{slice_get-get_or}
use Rattle.std.specs.Prelude.{slice_get, IfOk, OnOk}
use Rattle.meaning.specs.Tables.{is_there}
use Rattle.input_tables.specs.Pages.{page_of, all_of}
use Rattle.input_tables.specs.Rows.{AreWide}
use Rattle.table_parts.specs.Sums.{added}
use Rattle.input_tables.specs.Sums.{without_row}
use Rattle.input_tables.proofs.Laid.{wide_page}
use Rattle.input_tables.proofs.Paging.{rising_all}
use Rattle.input_tables.proofs.PageEdits.{row_via_page, row_off_pages, put_page, new_page, rising_of, has_of, keep_put, keep_new, inserted, on_ok}
use Rattle.input_tables.proofs.rows.Rows.put.Goals as goal

pub put-requires-clause-rising : goal.put-requires-clause-rising
put-requires-clause-rising c =
    let ps = c.self.inside.pages.items in
    let n = c.args.number in
    let of_n = to_z-of_z w64 n c.ranges.number in
    let fits : FitsSigned w64 c.page_of-page.result = search rules in
    let number = to_z-of_z w64 c.page_of-page.result fits ∙ c.page_of-page.ensures ∙ ap page_of of_n in
    let place = rw c.deref.ensures.value at c.in-Ok.ensures.place in
    let there = rw c.deref.ensures.value at c.in-Ok.ensures.there in
    let q = c.index_mut.result.now in
    let within : c.in-Ok.place < length ps = rw c.deref.ensures.value at c.in-Ok.ensures.within in
    let here : slice_get ps c.in-Ok.place ≡ Some q = slice_get-get_or ps c.in-Ok.place q within ∙ ap Some (sym c.index_mut.ensures.value) in
    rising_of ps _ n c.in-Ok.place number c.self.invariant.0 c.self.invariant.1 place q here

pub put-requires-clause-rows : goal.put-requires-clause-rows
put-requires-clause-rows c =
    let ps = c.self.inside.pages.items in
    let n = c.args.number in
    let of_n = to_z-of_z w64 n c.ranges.number in
    let fits : FitsSigned w64 c.page_of-page.result = search rules in
    let number = to_z-of_z w64 c.page_of-page.result fits ∙ c.page_of-page.ensures ∙ ap page_of of_n in
    let place = rw c.deref.ensures.value at c.in-Ok.ensures.place in
    let there = rw c.deref.ensures.value at c.in-Ok.ensures.there in
    let q = c.index_mut.result.now in
    let within : c.in-Ok.place < length ps = rw c.deref.ensures.value at c.in-Ok.ensures.within in
    let here : slice_get ps c.in-Ok.place ≡ Some q = slice_get-get_or ps c.in-Ok.place q within ∙ ap Some (sym c.index_mut.ensures.value) in
    has_of ps _ n c.in-Ok.place number c.self.invariant.0 c.self.invariant.1 place q here

pub put-requires-clause-wide : goal.put-requires-clause-wide
put-requires-clause-wide c =
    let ps = c.self.inside.pages.items in
    let q = c.index_mut.result.now in
    let within : c.in-Ok.place < length ps = rw c.deref.ensures.value at c.in-Ok.ensures.within in
    let here : slice_get ps c.in-Ok.place ≡ Some q = slice_get-get_or ps c.in-Ok.place q within ∙ ap Some (sym c.index_mut.ensures.value) in
    wide_page (length c.args.values.now) ps c.in-Ok.place q (subst (AreWide (length c.args.values.now)) (sym c.self.view_is) c.requires.wide) here

pub invariant_of-self : goal.invariant_of-self
invariant_of-self c =
    let ps = c.self.inside.pages.items in
    let n = c.args.number in
    let of_n = to_z-of_z w64 n c.ranges.number in
    let fits : FitsSigned w64 c.page_of-page.result = search rules in
    let number = to_z-of_z w64 c.page_of-page.result fits ∙ c.page_of-page.ensures ∙ ap page_of of_n in
    let place = rw c.deref.ensures.value at c.in-Ok.ensures.place in
    let there = rw c.deref.ensures.value at c.in-Ok.ensures.there in
    let q = c.index_mut.result.now in
    let within : c.in-Ok.place < length ps = rw c.deref.ensures.value at c.in-Ok.ensures.within in
    let here : slice_get ps c.in-Ok.place ≡ Some q = slice_get-get_or ps c.in-Ok.place q within ∙ ap Some (sym c.index_mut.ensures.value) in
    keep_put ps _ n c.in-Ok.place number c.self.invariant.0 c.self.invariant.1 place c.put.result q c.args.values.now c.put.new.self here there c.requires.range c.values_fit.ensures.fit
    (rw of_n at c.put.ensures.put) c.put.ensures.same

pub invariant_of-self-in-Err : goal.invariant_of-self-in-Err
invariant_of-self-in-Err c =
    let ps = c.self.inside.pages.items in
    let n = c.args.number in
    let of_n = to_z-of_z w64 n c.ranges.number in
    let fits : FitsSigned w64 c.page_of-page.result = search rules in
    let number = to_z-of_z w64 c.page_of-page.result fits ∙ c.page_of-page.ensures ∙ ap page_of of_n in
    let place = rw c.deref.ensures.value at c.in-Err.ensures.new_place in
    let absent = rw c.deref.ensures.value at c.in-Err.ensures.absent in
    keep_new ps _ n c.in-Err.place number c.self.invariant.0 c.self.invariant.1 place c.insert.result c.args.values.now c.in_ok-rows-in-Err.rows c.insert.new.self.items absent c.requires.range
    c.values_fit.ensures.fit (rw of_n at c.in_ok-rows-in-Err.ensures) c.insert.ensures.items

pub returns-in-Ok-clause-there : goal.returns-in-Ok-clause-there
returns-in-Ok-clause-there c =
    let ps = c.self.inside.pages.items in
    let n = c.args.number in
    let of_n = to_z-of_z w64 n c.ranges.number in
    let fits : FitsSigned w64 c.page_of-page.result = search rules in
    let number = to_z-of_z w64 c.page_of-page.result fits ∙ c.page_of-page.ensures ∙ ap page_of of_n in
    let place = rw c.deref.ensures.value at c.in-Ok.ensures.place in
    let there = rw c.deref.ensures.value at c.in-Ok.ensures.there in
    let q = c.index_mut.result.now in
    let within : c.in-Ok.place < length ps = rw c.deref.ensures.value at c.in-Ok.ensures.within in
    let here : slice_get ps c.in-Ok.place ≡ Some q = slice_get-get_or ps c.in-Ok.place q within ∙ ap Some (sym c.index_mut.ensures.value) in
    rw (← c.self.view_is) (subst (λ o. IfOk c.put.result (λ found. found ≡ is_there o)) (row_via_page ps _ n c.in-Ok.place number c.self.invariant.0 c.self.invariant.1 place q here there) (rw of_n at c.put.ensures.there))

pub returns-in-Ok-clause-put : goal.returns-in-Ok-clause-put
returns-in-Ok-clause-put c =
    let ps = c.self.inside.pages.items in
    let n = c.args.number in
    let of_n = to_z-of_z w64 n c.ranges.number in
    let fits : FitsSigned w64 c.page_of-page.result = search rules in
    let number = to_z-of_z w64 c.page_of-page.result fits ∙ c.page_of-page.ensures ∙ ap page_of of_n in
    let place = rw c.deref.ensures.value at c.in-Ok.ensures.place in
    let there = rw c.deref.ensures.value at c.in-Ok.ensures.there in
    let q = c.index_mut.result.now in
    let within : c.in-Ok.place < length ps = rw c.deref.ensures.value at c.in-Ok.ensures.within in
    let here : slice_get ps c.in-Ok.place ≡ Some q = slice_get-get_or ps c.in-Ok.place q within ∙ ap Some (sym c.index_mut.ensures.value) in
    rw (← c.self.view_is) (on_ok c.put.result (rw of_n at c.put.ensures.put) (λ new. put_page ps _ n c.in-Ok.place number c.self.invariant.0 c.self.invariant.1 place q c.args.values.now c.put.new.self here there new))

pub returns-else-is_err-clause-there : goal.returns-else-is_err-clause-there
returns-else-is_err-clause-there c =
    let ps = c.self.inside.pages.items in
    let n = c.args.number in
    let of_n = to_z-of_z w64 n c.ranges.number in
    let fits : FitsSigned w64 c.page_of-page.result = search rules in
    let number = to_z-of_z w64 c.page_of-page.result fits ∙ c.page_of-page.ensures ∙ ap page_of of_n in
    let place = rw c.deref.ensures.value at c.in-Err.ensures.new_place in
    let absent = rw c.deref.ensures.value at c.in-Err.ensures.absent in
    rw (← c.self.view_is) (sym (ap is_there (row_off_pages ps _ n c.in-Err.place number c.self.invariant.0 c.self.invariant.1 place absent)))

pub returns-else-is_err-clause-put : goal.returns-else-is_err-clause-put
returns-else-is_err-clause-put c =
    let ps = c.self.inside.pages.items in
    let n = c.args.number in
    let of_n = to_z-of_z w64 n c.ranges.number in
    let fits : FitsSigned w64 c.page_of-page.result = search rules in
    let number = to_z-of_z w64 c.page_of-page.result fits ∙ c.page_of-page.ensures ∙ ap page_of of_n in
    let place = rw c.deref.ensures.value at c.in-Err.ensures.new_place in
    let absent = rw c.deref.ensures.value at c.in-Err.ensures.absent in
    let items = inserted c.insert.result _ _ _ _ c.is_err.ensures.value c.if-is_err.false c.insert.ensures.items in
    rw (← c.self.view_is) (ap all_of items ∙ new_page ps _ n c.in-Err.place number c.self.invariant.0 c.self.invariant.1 place c.args.values.now c.in_ok-rows-in-Err.rows absent (rw of_n at c.in_ok-rows-in-Err.ensures))

pub returns-in-Ok-clause-sums : goal.returns-in-Ok-clause-sums
returns-in-Ok-clause-sums c =
    let ps = c.self.inside.pages.items in
    let n = c.args.number in
    let of_n = to_z-of_z w64 n c.ranges.number in
    let fits : FitsSigned w64 c.page_of-page.result = search rules in
    let number = to_z-of_z w64 c.page_of-page.result fits ∙ c.page_of-page.ensures ∙ ap page_of of_n in
    let place = rw c.deref.ensures.value at c.in-Ok.ensures.place in
    let there = rw c.deref.ensures.value at c.in-Ok.ensures.there in
    let q = c.index_mut.result.now in
    let within : c.in-Ok.place < length ps = rw c.deref.ensures.value at c.in-Ok.ensures.within in
    let here : slice_get ps c.in-Ok.place ≡ Some q = slice_get-get_or ps c.in-Ok.place q within ∙ ap Some (sym c.index_mut.ensures.value) in
    rw (← c.self.view_is) (subst (λ row. OnOk c.put.result (c.put.new.sums.items ≡ added (without_row row c.args.sums.now.items) c.args.values.now))
    (row_via_page ps _ n c.in-Ok.place number c.self.invariant.0 c.self.invariant.1 place q here there) (rw of_n at c.put.ensures.sums))

pub returns-in-Ok-clause-rising : goal.returns-in-Ok-clause-rising
returns-in-Ok-clause-rising c = rw (← c.self.view_is) (on_ok c.put.result c.put.ensures.sums (λ sums. rising_all c.self.inside.pages.items c.self.invariant.0 c.self.invariant.1))

pub returns-else-is_err-clause-sums : goal.returns-else-is_err-clause-sums
returns-else-is_err-clause-sums c =
    let ps = c.self.inside.pages.items in
    let n = c.args.number in
    let of_n = to_z-of_z w64 n c.ranges.number in
    let fits : FitsSigned w64 c.page_of-page.result = search rules in
    let number = to_z-of_z w64 c.page_of-page.result fits ∙ c.page_of-page.ensures ∙ ap page_of of_n in
    let place = rw c.deref.ensures.value at c.in-Err.ensures.new_place in
    let absent = rw c.deref.ensures.value at c.in-Err.ensures.absent in
    rw (← c.self.view_is, row_off_pages ps _ n c.in-Err.place number c.self.invariant.0 c.self.invariant.1 place absent) c.put_on.ensures

pub returns-else-is_err-clause-rising : goal.returns-else-is_err-clause-rising
returns-else-is_err-clause-rising c = rw (← c.self.view_is) (rising_all c.self.inside.pages.items c.self.invariant.0 c.self.invariant.1)
