use Rattle.std.proofs.Common.{◌≡◌, ◌+ℤ◌, ℤ, w64, pos, arith, sym, ◌∙◌, FitsSigned, ℕ, ◌≤◌}
use Rattle.std.proofs.lemmas.Int.{to_z-of_z, ints, wrapping_add_is, int_wrap_fits}
use Rattle.input_tables.proofs.Paging.{limit_all, last_fits, page_has_last}
use Rattle.input_tables.proofs.rows.Rows.limit.Goals as goal

-- a number that a row may have, and one more, are of 64 bits
fits_next : (n : ℤ) → (k : ℕ) × (n ≡ pos k) × (k ≤ 2147483647) → FitsSigned w64 n × FitsSigned w64 (n +ℤ pos 1)
fits_next n h = rw h.1 (omega (arith, ints, h.2), omega (arith, ints, h.2))

pub overflow_add-result : goal.overflow_add-result
overflow_add-result c =
    let ps = c.self.inside.pages.items in
    let at = rw c.deref.ensures.value at c.in-Some.ensures.value in
    let fits = fits_next c.in-Some-last.number (last_fits c.in-Some-last.number ps _ c.in-Some.page.now c.self.invariant.1 (sym at) (sym c.in-Some-last.ensures)) in
    rw (to_z-of_z w64 _ fits.0) fits.1

pub returns-in-Some-last : goal.returns-in-Some-last
returns-in-Some-last c =
    let ps = c.self.inside.pages.items in
    let n = c.in-Some-last.number in
    let at = rw c.deref.ensures.value at c.in-Some.ensures.value in
    let last = sym c.in-Some-last.ensures in
    let fits = fits_next n (last_fits n ps _ c.in-Some.page.now c.self.invariant.1 (sym at) last) in
    let one : FitsSigned w64 (pos 1) = omega (arith, ints) in
    let limit = limit_all n ps c.in-Some.page.now c.self.invariant.0 c.self.invariant.1 (sym at) last in
    rw (to_z-of_z w64 _ fits.0, to_z-of_z w64 _ fits.1, ← c.self.view_is)
    (sym (limit ∙ wrapping_add_is w64 n (pos 1) fits.0 one ∙ int_wrap_fits w64 (n +ℤ pos 1) fits.1))

pub returns-in-None-last : goal.returns-in-None-last
returns-in-None-last c =
    let at = rw c.deref.ensures.value at c.in-Some.ensures.value in
    absurd (page_has_last c.self.inside.pages.items _ c.in-Some.page.now c.self.invariant.1 (sym at) (sym c.in-None-last.ensures))
