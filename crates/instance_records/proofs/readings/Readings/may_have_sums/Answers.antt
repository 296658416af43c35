use Rattle.std.proofs.Common.{[], ◌∷◌, ap, sym, ◌∙◌}
use Rattle.std.specs.List.{list_any}
use Rattle.evaluation.specs.declared.note.Note.TheVariants.{Sum}
use Rattle.record_theory.specs.Same.{is_read}
use Rattle.instance_records.specs.Readings.{is_a_sum, notes_in}
use Rattle.instance_records.proofs.Sums.{no_sums}
use Rattle.instance_records.proofs.readings.Readings.may_have_sums.Goals as goal

pub returns-in-Two : goal.returns-in-Two
returns-in-Two c = record {
  none = λ e table column value.
      ap (λ ns. is_read ns (Sum table column value)) (sym c.self.view_is ∙ ap notes_in c.in-Two.is) ∙ no_sums c.in-Two.pair table column value (sym c.are_sums-in-Two.ensures.sums ∙ e);
}

pub returns-in-One : goal.returns-in-One
returns-in-One c = record {
  none = λ e table column value.
      ap (λ ns. is_read ns (Sum table column value)) (sym c.self.view_is ∙ ap notes_in c.in-One.is)
      ∙ no_sums (c.in-One.reading ∷ []) table column value (ap (λ rs. list_any is_a_sum rs) (sym c.from_ref.ensures.value) ∙ sym c.are_sums.ensures.sums ∙ e);
}
