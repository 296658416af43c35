use Rattle.std.proofs.Common.{◌≡◌, List, true, ap, sym, ◌∙◌, subst, length, ◌<◌, arith}
use Rattle.std.proofs.lemmas.Option.{slice_get_within}
use Rattle.instance_records.specs.declared.spans.Span.{Span}
use Rattle.instance_records.specs.Spans.{is_covered_by, put_spans}
use Rattle.instance_records.proofs.Covered.{keeps_all, adds_all}
use Rattle.instance_records.proofs.Joined.{one_more_joined}
use Rattle.instance_records.proofs.hull.Hull.joined.Goals as goal

pub loop-hull-preserved : goal.loop-hull-preserved
loop-hull-preserved c =
    let old = c.loop-hull.spans.items in
    let new = c.put_spans.new.spans.items in
    let hull = c.hull-item.result in
    let put : new ≡ put_spans old hull = c.in_ok-put_spans.ensures.put ∙ ap (put_spans old) (c.as_slice.ensures.spans ∙ c.hull.view_is) in
    one_more_joined c.args.hulls.now c.loop-hull.hull-index hull old new c.hull-item.is
    (λ note e. subst (λ (ss : List Span). is_covered_by ss note ≡ true) (sym put) (keeps_all hull old note e))
    (λ note e. subst (λ (ss : List Span). is_covered_by ss note ≡ true) (sym put) (adds_all hull old note e))
    c.loop-hull.invariant

pub returns : goal.returns
returns c = record {
  held = λ i g note at e.
      let within : i < length c.args.hulls.now = slice_get_within c.args.hulls.now i g at in
      let past = c.loop-hull-test.false in
      subst (λ (ss : List Span). is_covered_by ss note ≡ true) (sym c.packed-spans.ensures.same) (c.loop-hull.invariant i g note (omega (arith, within, past)) at e);
}
