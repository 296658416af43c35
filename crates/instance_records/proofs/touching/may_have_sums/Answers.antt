use Rattle.std.proofs.Common.{ap, sym, ◌∙◌}
use Rattle.std.specs.List.{list_any}
use Rattle.evaluation.specs.declared.note.Note.TheVariants.{Sum}
use Rattle.instance_records.specs.declared.readings.Below.{out-Below}
use Rattle.instance_records.specs.declared.readings.Node.{out-Node}
use Rattle.instance_records.specs.Readings.{is_a_sum}
use Rattle.instance_records.specs.ShortLists.{items_in}
use Rattle.instance_records.specs.Spans.{spans_in}
use Rattle.instance_records.proofs.Among.{read_alone, read_outside}
use Rattle.instance_records.proofs.Sums.{no_sums, no_whole}
use Rattle.instance_records.proofs.touching.may_have_sums.Goals as goal

pub returns-in-Some : goal.returns-in-Some
returns-in-Some c = record {
  none = λ e table column value.
      let own = no_sums (items_in (out-Node c.args.node.now).own) table column value (ap (λ rs. list_any is_a_sum rs) (sym c.as_slice.ensures.items) ∙ sym c.are_sums.ensures.sums ∙ c.if-are_sums.false) in
      let spans_are = c.as_slice-in-Some.ensures.spans ∙ ap (λ b. spans_in (out-Below b).spans) c.deref.ensures in
      let outside = no_whole (spans_in (out-Below c.in-Some.below.value).spans) table column value (ap (λ ss. list_any (λ s. s.whole) ss) (sym spans_are) ∙ sym c.is_one_whole.ensures.whole ∙ e) in
      read_outside c.args.node.now (Sum table column value) c.in-Some.below c.in-Some.is c.requires.covered outside own;
}

pub returns-in-None : goal.returns-in-None
returns-in-None c = record {
  none = λ e table column value.
      let own = no_sums (items_in (out-Node c.args.node.now).own) table column value (ap (λ rs. list_any is_a_sum rs) (sym c.as_slice.ensures.items) ∙ sym c.are_sums.ensures.sums ∙ c.if-are_sums.false) in
      read_alone c.args.node.now (Sum table column value) c.in-None.is own;
}
