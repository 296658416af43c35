use Rattle.std.proofs.Common.{rules, ◌≡◌, ◌<◌, List, ℤ, length, Some, refl, ap, sym, ◌∙◌, subst, w64, FitsSigned}
use Rattle.std.proofs.lemmas.Int.{to_z-of_z}
use Rattle.std.proofs.lemmas.Option.{slice_get-get_or}
use Rattle.std.specs.Prelude.{slice_get, is_some}
use Rattle.meaning.specs.Tables.{is_there}
use Rattle.input_tables.specs.Pages.{page_of}
use Rattle.input_tables.specs.Sums.{without_row}
use Rattle.input_tables.proofs.PageEdits.{row_via_page, row_off_pages, none_off_pages, gone_page, empty_page, rising_of, keep_gone, keep_less}
use Rattle.input_tables.proofs.rows.Rows.delete.Goals as goal

pub delete-there-requires : goal.delete-there-requires
delete-there-requires c =
    let ps = c.self.inside.pages.items in
    let n = c.args.number in
    let of_n = to_z-of_z w64 n c.ranges.number in
    let fits : FitsSigned w64 c.page_of-page.result = search rules in
    let number = to_z-of_z w64 c.page_of-page.result fits ∙ c.page_of-page.ensures ∙ ap page_of of_n in
    let place = rw c.deref.ensures.value at c.in-Ok.ensures.place in
    let there = rw c.deref.ensures.value at c.in-Ok.ensures.there in
    let q = c.index_mut.result.now in
    let within : c.in-Ok.place < length ps = rw c.deref.ensures.value at c.in-Ok.ensures.within in
    let here : slice_get ps c.in-Ok.place ≡ Some q = slice_get-get_or ps c.in-Ok.place q within ∙ ap Some (sym c.index_mut.ensures.value) in
    rising_of ps _ n c.in-Ok.place number c.self.invariant.0 c.self.invariant.1 place q here

pub invariant_of-self : goal.invariant_of-self
invariant_of-self c =
    let ps = c.self.inside.pages.items in
    let n = c.args.number in
    let of_n = to_z-of_z w64 n c.ranges.number in
    let fits : FitsSigned w64 c.page_of-page.result = search rules in
    let number = to_z-of_z w64 c.page_of-page.result fits ∙ c.page_of-page.ensures ∙ ap page_of of_n in
    let place = rw c.deref.ensures.value at c.in-Ok.ensures.place in
    let there = rw c.deref.ensures.value at c.in-Ok.ensures.there in
    let q = c.index_mut.result.now in
    let within : c.in-Ok.place < length ps = rw c.deref.ensures.value at c.in-Ok.ensures.within in
    let here : slice_get ps c.in-Ok.place ≡ Some q = slice_get-get_or ps c.in-Ok.place q within ∙ ap Some (sym c.index_mut.ensures.value) in
    let last = sym (c.is_some.ensures ∙ ap is_some c.last.ensures) ∙ c.if-is_some.true in
    keep_gone ps _ n c.in-Ok.place number c.self.invariant.0 c.self.invariant.1 place q c.delete-there.new.self here there (rw of_n at c.delete-there.ensures.gone) last

pub returns-then-is_some-clause-there : goal.returns-then-is_some-clause-there
returns-then-is_some-clause-there c =
    let ps = c.self.inside.pages.items in
    let n = c.args.number in
    let of_n = to_z-of_z w64 n c.ranges.number in
    let fits : FitsSigned w64 c.page_of-page.result = search rules in
    let number = to_z-of_z w64 c.page_of-page.result fits ∙ c.page_of-page.ensures ∙ ap page_of of_n in
    let place = rw c.deref.ensures.value at c.in-Ok.ensures.place in
    let there = rw c.deref.ensures.value at c.in-Ok.ensures.there in
    let q = c.index_mut.result.now in
    let within : c.in-Ok.place < length ps = rw c.deref.ensures.value at c.in-Ok.ensures.within in
    let here : slice_get ps c.in-Ok.place ≡ Some q = slice_get-get_or ps c.in-Ok.place q within ∙ ap Some (sym c.index_mut.ensures.value) in
    rw (← c.self.view_is) (rw of_n at c.delete-there.ensures.there ∙ ap is_there (row_via_page ps _ n c.in-Ok.place number c.self.invariant.0 c.self.invariant.1 place q here there))

pub returns-then-is_some-clause-gone : goal.returns-then-is_some-clause-gone
returns-then-is_some-clause-gone c =
    let ps = c.self.inside.pages.items in
    let n = c.args.number in
    let of_n = to_z-of_z w64 n c.ranges.number in
    let fits : FitsSigned w64 c.page_of-page.result = search rules in
    let number = to_z-of_z w64 c.page_of-page.result fits ∙ c.page_of-page.ensures ∙ ap page_of of_n in
    let place = rw c.deref.ensures.value at c.in-Ok.ensures.place in
    let there = rw c.deref.ensures.value at c.in-Ok.ensures.there in
    let q = c.index_mut.result.now in
    let within : c.in-Ok.place < length ps = rw c.deref.ensures.value at c.in-Ok.ensures.within in
    let here : slice_get ps c.in-Ok.place ≡ Some q = slice_get-get_or ps c.in-Ok.place q within ∙ ap Some (sym c.index_mut.ensures.value) in
    rw (← c.self.view_is) (gone_page ps _ n c.in-Ok.place number c.self.invariant.0 c.self.invariant.1 place q c.delete-there.new.self here there (rw of_n at c.delete-there.ensures.gone))

pub invariant_of-self-in-Ok : goal.invariant_of-self-in-Ok
invariant_of-self-in-Ok c =
    let ps = c.self.inside.pages.items in
    let n = c.args.number in
    let of_n = to_z-of_z w64 n c.ranges.number in
    let fits : FitsSigned w64 c.page_of-page.result = search rules in
    let number = to_z-of_z w64 c.page_of-page.result fits ∙ c.page_of-page.ensures ∙ ap page_of of_n in
    let place = rw c.deref.ensures.value at c.in-Ok.ensures.place in
    let there = rw c.deref.ensures.value at c.in-Ok.ensures.there in
    let q = c.index_mut.result.now in
    let within : c.in-Ok.place < length ps = rw c.deref.ensures.value at c.in-Ok.ensures.within in
    let here : slice_get ps c.in-Ok.place ≡ Some q = slice_get-get_or ps c.in-Ok.place q within ∙ ap Some (sym c.index_mut.ensures.value) in
    rw c.remove.ensures.items (keep_less ps _ n c.in-Ok.place number c.self.invariant.0 c.self.invariant.1 place (q.0, c.delete-there.new.self) there)

pub returns-else-is_some-clause-there : goal.returns-else-is_some-clause-there
returns-else-is_some-clause-there c =
    let ps = c.self.inside.pages.items in
    let n = c.args.number in
    let of_n = to_z-of_z w64 n c.ranges.number in
    let fits : FitsSigned w64 c.page_of-page.result = search rules in
    let number = to_z-of_z w64 c.page_of-page.result fits ∙ c.page_of-page.ensures ∙ ap page_of of_n in
    let place = rw c.deref.ensures.value at c.in-Ok.ensures.place in
    let there = rw c.deref.ensures.value at c.in-Ok.ensures.there in
    let q = c.index_mut.result.now in
    let within : c.in-Ok.place < length ps = rw c.deref.ensures.value at c.in-Ok.ensures.within in
    let here : slice_get ps c.in-Ok.place ≡ Some q = slice_get-get_or ps c.in-Ok.place q within ∙ ap Some (sym c.index_mut.ensures.value) in
    rw (← c.self.view_is) (rw of_n at c.delete-there.ensures.there ∙ ap is_there (row_via_page ps _ n c.in-Ok.place number c.self.invariant.0 c.self.invariant.1 place q here there))

pub returns-else-is_some-clause-gone : goal.returns-else-is_some-clause-gone
returns-else-is_some-clause-gone c =
    let ps = c.self.inside.pages.items in
    let n = c.args.number in
    let of_n = to_z-of_z w64 n c.ranges.number in
    let fits : FitsSigned w64 c.page_of-page.result = search rules in
    let number = to_z-of_z w64 c.page_of-page.result fits ∙ c.page_of-page.ensures ∙ ap page_of of_n in
    let place = rw c.deref.ensures.value at c.in-Ok.ensures.place in
    let there = rw c.deref.ensures.value at c.in-Ok.ensures.there in
    let q = c.index_mut.result.now in
    let within : c.in-Ok.place < length ps = rw c.deref.ensures.value at c.in-Ok.ensures.within in
    let here : slice_get ps c.in-Ok.place ≡ Some q = slice_get-get_or ps c.in-Ok.place q within ∙ ap Some (sym c.index_mut.ensures.value) in
    rw (← c.self.view_is, c.remove.ensures.items) (empty_page ps _ n c.in-Ok.place number c.self.invariant.0 c.self.invariant.1 place q c.delete-there.new.self here there (rw of_n at c.delete-there.ensures.gone)
    (sym (c.is_some.ensures ∙ ap is_some c.last.ensures) ∙ c.if-is_some.false))

pub returns-in-Err-clause-there : goal.returns-in-Err-clause-there
returns-in-Err-clause-there c =
    let ps = c.self.inside.pages.items in
    let n = c.args.number in
    let of_n = to_z-of_z w64 n c.ranges.number in
    let fits : FitsSigned w64 c.page_of-page.result = search rules in
    let number = to_z-of_z w64 c.page_of-page.result fits ∙ c.page_of-page.ensures ∙ ap page_of of_n in
    let place = rw c.deref.ensures.value at c.in-Err.ensures.new_place in
    let absent = rw c.deref.ensures.value at c.in-Err.ensures.absent in
    rw (← c.self.view_is) (sym (ap is_there (row_off_pages ps _ n c.in-Err.field-0 number c.self.invariant.0 c.self.invariant.1 place absent)))

pub returns-in-Err-clause-gone : goal.returns-in-Err-clause-gone
returns-in-Err-clause-gone c =
    let ps = c.self.inside.pages.items in
    let n = c.args.number in
    let of_n = to_z-of_z w64 n c.ranges.number in
    let fits : FitsSigned w64 c.page_of-page.result = search rules in
    let number = to_z-of_z w64 c.page_of-page.result fits ∙ c.page_of-page.ensures ∙ ap page_of of_n in
    let place = rw c.deref.ensures.value at c.in-Err.ensures.new_place in
    let absent = rw c.deref.ensures.value at c.in-Err.ensures.absent in
    rw (← c.self.view_is) (sym (none_off_pages ps _ n c.in-Err.field-0 number c.self.invariant.0 c.self.invariant.1 place absent))

pub returns-then-is_some-clause-sums : goal.returns-then-is_some-clause-sums
returns-then-is_some-clause-sums c =
    let ps = c.self.inside.pages.items in
    let n = c.args.number in
    let of_n = to_z-of_z w64 n c.ranges.number in
    let fits : FitsSigned w64 c.page_of-page.result = search rules in
    let number = to_z-of_z w64 c.page_of-page.result fits ∙ c.page_of-page.ensures ∙ ap page_of of_n in
    let place = rw c.deref.ensures.value at c.in-Ok.ensures.place in
    let there = rw c.deref.ensures.value at c.in-Ok.ensures.there in
    let q = c.index_mut.result.now in
    let within : c.in-Ok.place < length ps = rw c.deref.ensures.value at c.in-Ok.ensures.within in
    let here : slice_get ps c.in-Ok.place ≡ Some q = slice_get-get_or ps c.in-Ok.place q within ∙ ap Some (sym c.index_mut.ensures.value) in
    rw (← c.self.view_is) (subst (λ row. c.delete-there.new.sums.items ≡ without_row row c.args.sums.now.items)
    (row_via_page ps _ n c.in-Ok.place number c.self.invariant.0 c.self.invariant.1 place q here there) (rw of_n at c.delete-there.ensures.sums))

pub returns-else-is_some-clause-sums : goal.returns-else-is_some-clause-sums
returns-else-is_some-clause-sums c =
    let ps = c.self.inside.pages.items in
    let n = c.args.number in
    let of_n = to_z-of_z w64 n c.ranges.number in
    let fits : FitsSigned w64 c.page_of-page.result = search rules in
    let number = to_z-of_z w64 c.page_of-page.result fits ∙ c.page_of-page.ensures ∙ ap page_of of_n in
    let place = rw c.deref.ensures.value at c.in-Ok.ensures.place in
    let there = rw c.deref.ensures.value at c.in-Ok.ensures.there in
    let q = c.index_mut.result.now in
    let within : c.in-Ok.place < length ps = rw c.deref.ensures.value at c.in-Ok.ensures.within in
    let here : slice_get ps c.in-Ok.place ≡ Some q = slice_get-get_or ps c.in-Ok.place q within ∙ ap Some (sym c.index_mut.ensures.value) in
    rw (← c.self.view_is) (subst (λ row. c.delete-there.new.sums.items ≡ without_row row c.args.sums.now.items)
    (row_via_page ps _ n c.in-Ok.place number c.self.invariant.0 c.self.invariant.1 place q here there) (rw of_n at c.delete-there.ensures.sums))

pub returns-in-Err-clause-sums : goal.returns-in-Err-clause-sums
returns-in-Err-clause-sums c =
    let ps = c.self.inside.pages.items in
    let n = c.args.number in
    let of_n = to_z-of_z w64 n c.ranges.number in
    let fits : FitsSigned w64 c.page_of-page.result = search rules in
    let number = to_z-of_z w64 c.page_of-page.result fits ∙ c.page_of-page.ensures ∙ ap page_of of_n in
    let place = rw c.deref.ensures.value at c.in-Err.ensures.new_place in
    let absent = rw c.deref.ensures.value at c.in-Err.ensures.absent in
    rw (← c.self.view_is, row_off_pages ps _ n c.in-Err.field-0 number c.self.invariant.0 c.self.invariant.1 place absent) (refl {A = List ℤ})
