use Rattle.std.proofs.Common.{◌≡◌, [], ◌∷◌, false, ap, sym, ◌∙◌, arith}
use Rattle.rerun_records.specs.Skips.{PlainSkip}
use Rattle.instance_records.specs.Spans.{is_touched}
use Rattle.instance_records.proofs.Touched.{spans_apart}
use Rattle.rerun_records.proofs.skips.Skip.apart_to.Goals as goal

pub returns-clause-apart : goal.returns-clause-apart
returns-clause-apart c = λ p notes from upto held.
    let s = c.args.self.now in
    let first : s.first ≡ c.self.inside.first = ap (λ (x : PlainSkip). x.first) (sym c.self.view_is) in
    let until : s.until ≡ c.self.inside.until = ap (λ (x : PlainSkip). x.until) (sym c.self.view_is) in
    let ends = c.if-self-end.false in
    let untouched : is_touched s.hull (c.args.change.now ∷ []) ≡ false =
    ap (λ (x : PlainSkip). is_touched x.hull (c.args.change.now ∷ [])) (sym c.self.view_is)
    ∙ ap (is_touched c.self.inside.hull) (sym c.from_ref.ensures.value)
    ∙ sym c.is_touched.ensures.touched
    ∙ c.if-is_touched.false in
    spans_apart (c.args.change.now ∷ []) s.hull notes untouched (held (omega (arith, first, from)) (omega (arith, until, ends, upto)))
