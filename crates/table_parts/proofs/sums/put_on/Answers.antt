use Rattle.std.proofs.Common.{rules, arith, ◌+◌, ◌≡◌, Some, None, refl, ap, sym, ◌∙◌, w64, FitsSigned, pos}
use Rattle.std.specs.Prelude.{slice_get, slice_set, slice_index_or}
use Rattle.std.proofs.lemmas.Int.{wrapping_add_is}
use Rattle.std.proofs.lemmas.Option.{slice_get-get_or, slice_get_past, slice_get_read}
use Rattle.table_parts.proofs.OneMore.{added_next, added_none}
use Rattle.table_parts.proofs.sums.put_on.Goals as goal
use Rattle.table_parts.proofs.sums.put_on.Goals.{in-Some, in-None}

pub loop-column-preserved : goal.loop-column-preserved
loop-column-preserved c =
    let ss = c.args.sums.now.items in
    let vs = c.args.values.now in
    let now = c.loop-column.sums.items in
    let i = c.loop-column.column in
    elim c.match-get_mut.branch [
      | in-Some w ↦ (
          let s = w.in-Some.sum.now in
          let v = slice_index_or vs i (pos 0) in
          let at : slice_get now i ≡ Some s = slice_get_read now _ i s refl (search rules) w.in-Some.ensures.value in
          let is : slice_get vs i ≡ Some v = slice_get-get_or vs i (pos 0) c.loop-column-test.true in
          let s_fits : FitsSigned w64 s = search rules in
          let v_fits : FitsSigned w64 v = search rules in
          rw w.sums-is (ap (slice_set now i) (wrapping_add_is w64 s v s_fits v_fits) ∙ rw c.loop-column.invariant (sym (added_next ss vs i (i + 1) s v (omega arith) (rw c.loop-column.invariant at at) is)))
          )
      | in-None w ↦ (
          let past : slice_get now i ≡ None = slice_get_past now i (search rules) in
          rw w.sums-is (c.loop-column.invariant ∙ sym (added_none ss vs i (i + 1) (omega arith) (rw c.loop-column.invariant at past)))
          )
    ]
