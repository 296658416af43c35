use Rattle.std.proofs.Common.{◌≡◌, ◌∷◌, List, Some, sym, subst, arith}
use Rattle.std.specs.Prelude.{slice_get}
use Rattle.rerun_records.specs.Skips.{PlainSkip, PassBut}
use Rattle.rerun_records.proofs.Passing.{with_done, with_got, none_pass, kept_pass, cut_pass}
use Rattle.rerun_records.proofs.skips.drop_around.Goals as goal

pub returns-then-number-len : goal.returns-then-number-len
returns-then-number-len c = record {
  held = λ records rest done h is.
      let back = sym c.deref.ensures.value in
      let all = subst (λ (ss : List PlainSkip). PassBut (c.args.place ∷ rest) records (with_done done ss)) back h in
      none_pass records c.args.place rest (with_done done c.args.skips.now.items) h
      (λ i s l at. c.around-number.ensures.before (c.args.place ∷ rest) records done all i s (omega (arith, l, c.if-number-len.true)) (subst (λ (ss : List PlainSkip). slice_get ss i ≡ Some s) back at));
}

pub returns-then-has : goal.returns-then-has
returns-then-has c = record {
  held = λ records rest done h is.
      let back = sym c.deref.ensures.value in
      let all = subst (λ (ss : List PlainSkip). PassBut (c.args.place ∷ rest) records (with_done done ss)) back h in
      let number = c.around-number.result in
      with_got c.args.skips.now.items number (omega (arith, c.if-number-len.false))
      (λ t at.
      (let around = c.around-number.ensures.around t (subst (λ (ss : List PlainSkip). slice_get ss number ≡ Some t) back at) in
      kept_pass records c.args.place rest (with_done done c.args.skips.now.items) number t c.args.reads.now h at around.0 around.1
      (λ i s l at_s. c.around-number.ensures.before (c.args.place ∷ rest) records done all i s l (subst (λ (ss : List PlainSkip). slice_get ss i ≡ Some s) back at_s))
      (c.has.ensures.has c.if-has.true t (subst (λ (ss : List PlainSkip). slice_get ss number ≡ Some t) (sym c.deref-2.ensures.value) at)) is));
}

pub returns : goal.returns
returns c = record {
  held = λ records rest done h is.
      let back = sym c.deref.ensures.value in
      let all = subst (λ (ss : List PlainSkip). PassBut (c.args.place ∷ rest) records (with_done done ss)) back h in
      subst (λ (ss : List PlainSkip). PassBut rest records (with_done done ss)) (sym c.truncate.ensures.items)
      (cut_pass records c.args.place rest done c.around-number.result c.args.skips.now.items h
      (λ i s l at. c.around-number.ensures.before (c.args.place ∷ rest) records done all i s l (subst (λ (ss : List PlainSkip). slice_get ss i ≡ Some s) back at)));
}
