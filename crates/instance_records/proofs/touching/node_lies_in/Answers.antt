use Rattle.std.proofs.Common.{ap, sym, ◌∙◌, map}
use Rattle.meaning.specs.Every.{every}
use Rattle.instance_records.specs.declared.readings.Below.{out-Below}
use Rattle.evaluation.specs.Short.{note_of}
use Rattle.record_theory.proofs.Members.{every_weaker}
use Rattle.instance_records.specs.Spans.{is_covered_by, hold_rows, spans_in}
use Rattle.instance_records.proofs.NodeNotes.{every_with_parts, every_alone, spans_cover}
use Rattle.instance_records.proofs.Holding.{held_by}
use Rattle.instance_records.proofs.touching.node_lies_in.Goals as goal

pub returns-in-Some : goal.returns-in-Some
returns-in-Some c = record {
  lies = λ e.
      let spans = c.args.spans.now in
      let node = c.args.node.now in
      let below = out-Below c.in-Some.below.value in
      let own = ap (λ rs. every (is_covered_by spans) (map note_of rs)) (sym c.as_slice.ensures.items) ∙ sym c.cover_all.ensures.covered ∙ c.if-not-cover_all.false in
      let spans_are = c.as_slice-in-Some.ensures.spans ∙ ap (λ b. spans_in (out-Below b).spans) c.deref.ensures in
      let held = ap (hold_rows spans) (sym spans_are) ∙ sym c.hold_rows.ensures.rows ∙ e in
      every_with_parts node (is_covered_by spans) c.in-Some.below c.in-Some.is own
      ∙ every_weaker (is_covered_by (spans_in below.spans)) (is_covered_by spans) _ (λ note. held_by spans (spans_in below.spans) note held) (spans_cover node c.in-Some.below c.in-Some.is c.requires.covered);
}

pub returns-in-None : goal.returns-in-None
returns-in-None c = record {
  lies = λ e.
      every_alone c.args.node.now (is_covered_by c.args.spans.now) c.in-None.is
      ∙ ap (λ rs. every (is_covered_by c.args.spans.now) (map note_of rs)) (sym c.as_slice.ensures.items)
      ∙ sym c.cover_all.ensures.covered
      ∙ c.if-not-cover_all.false;
}
