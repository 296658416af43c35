use Rattle.std.proofs.Common.{ap, sym, ◌∙◌, map}
use Rattle.instance_records.specs.declared.readings.Below.{out-Below}
use Rattle.instance_records.specs.declared.readings.Node.{out-Node}
use Rattle.evaluation.specs.Short.{note_of}
use Rattle.std.specs.List.{list_any}
use Rattle.record_theory.specs.InStep.{rests_on, is_apart}
use Rattle.instance_records.specs.Spans.{is_touched, spans_in}
use Rattle.instance_records.specs.ShortLists.{items_in}
use Rattle.instance_records.proofs.NodeNotes.{every_with_parts, every_alone, spans_cover}
use Rattle.instance_records.proofs.Touched.{own_apart, spans_apart}
use Rattle.instance_records.proofs.touching.node_is_touched.Goals as goal

pub returns-in-Some : goal.returns-in-Some
returns-in-Some c = record {
  apart = λ e.
      let changes = c.args.changes.now in
      let node = c.args.node.now in
      let own = own_apart changes (map note_of (items_in (out-Node node).own)) (ap (λ rs. list_any (λ note. list_any (rests_on note) changes) (map note_of rs)) (sym c.as_slice.ensures.items) ∙ sym c.are_own_touched.ensures.touched ∙ c.if-are_own_touched.false) in
      let spans_are = c.as_slice-in-Some.ensures.spans ∙ ap (λ b. spans_in (out-Below b).spans) c.deref.ensures in
      let untouched = ap (λ ss. is_touched ss changes) (sym spans_are) ∙ sym c.are_touched.ensures.touched ∙ e in
      every_with_parts node (is_apart changes) c.in-Some.below c.in-Some.is own
      ∙ spans_apart changes (spans_in (out-Below c.in-Some.below.value).spans) _ untouched (spans_cover node c.in-Some.below c.in-Some.is c.requires.covered);
}

pub returns-in-None : goal.returns-in-None
returns-in-None c = record {
  apart = λ e.
      let changes = c.args.changes.now in
      let node = c.args.node.now in
      let own = own_apart changes (map note_of (items_in (out-Node node).own)) (ap (λ rs. list_any (λ note. list_any (rests_on note) changes) (map note_of rs)) (sym c.as_slice.ensures.items) ∙ sym c.are_own_touched.ensures.touched ∙ c.if-are_own_touched.false) in
      every_alone node (is_apart changes) c.in-None.is ∙ own;
}
