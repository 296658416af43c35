use Rattle.std.proofs.Common.{◌≡◌, true, ap, sym, subst, ◌∙◌}
use Rattle.instance_records.specs.Spans.{hold_rows, is_covered_by, spans_in}
use Rattle.instance_records.proofs.Holding.{held_by}
use Rattle.instance_records.proofs.hull.Hull.holds.Goals as goal

pub returns : goal.returns
returns c = record {
  held = λ e note h.
      let own = spans_in c.self.inside.spans in
      let others = spans_in c.other.inside.spans in
      let all = sym (c.hold_rows.ensures.rows ∙ ap (λ ss. hold_rows ss c.as_slice-2.result.now) c.as_slice.ensures.spans ∙ ap (hold_rows own) c.as_slice-2.ensures.spans) ∙ e in
      subst (λ ss. is_covered_by ss note ≡ true) c.self.view_is (held_by own others note all (subst (λ ss. is_covered_by ss note ≡ true) (sym c.other.view_is) h));
}
