use Rattle.std.proofs.Common.{◌≡◌, ap, sym, ◌∙◌, ℕ, ◌+◌, ◌%◌, drop, ℤ, ◌+ℤ◌, to_z, of_z, w64, Fits, FitsSigned}
use Rattle.std.specs.Prelude.{slice_get}
use Rattle.std.specs.Int.{int_wrap}
use Rattle.std.proofs.Math.IntN.{+ℤ_assoc}
use Rattle.std.proofs.lemmas.Int.{wrapping_add_onto, int_wrap-add_left}
use Rattle.std.proofs.lemmas.List.{at_drop_more}
use Rattle.meaning.specs.Tables.{amount_in, column_total}
use Rattle.serial_oracle.specs.Listing.{row_plain, rows_plain}
use Rattle.serial_oracle.proofs.lookup.sum.Goals as goal

-- one number more, wrapped
added : (bits : ℕ) (amount rest : ℤ) → Fits w64 bits → FitsSigned w64 amount → int_wrap w64 (to_z w64 bits +ℤ (amount +ℤ rest)) ≡ int_wrap w64 (to_z w64 ((bits + of_z w64 amount) % 18446744073709551616) +ℤ rest)
added bits amount rest f g =
    ap (int_wrap w64) (sym (+ℤ_assoc (to_z w64 bits) amount rest))
    ∙ sym (int_wrap-add_left w64 (to_z w64 bits +ℤ amount) rest)
    ∙ ap (λ z. int_wrap w64 (z +ℤ rest)) (sym (wrapping_add_onto w64 bits amount f.fits g))

pub loop-row-preserved : goal.loop-row-preserved
loop-row-preserved c =
    let place = c.column-place.result in
    let rows = c.rows-row-items.result.now in
    let i = c.loop-row.row-index in
    let rest = column_total place (rows_plain (drop (i + 1) rows)) in
    let amount = ap (λ row. amount_in (slice_get (row_plain row).1 place)) (sym c.row-item.is) ∙ ap (λ values. amount_in (slice_get values place)) (sym c.deref.ensures.value) ∙ sym c.amount-total.ensures in
    let next = at_drop_more (λ xs. column_total place (rows_plain xs)) rows i c.row-item.result c.loop-row-test.true ∙ ap (λ z. z +ℤ rest) amount in
    c.loop-row.invariant
    ∙ ap (λ z. int_wrap w64 (to_z w64 c.loop-row.total-bits +ℤ z)) next
    ∙ added c.loop-row.total-bits c.amount-total.result rest c.loop-row.auto.total-fits (record { sfits = c.amount-total.type_inv })
