use Rattle.std.proofs.Common.{◌≡◌, false, [], ◌∷◌, map, ap, ◌∙◌, sym}
use Rattle.std.specs.List.{list_any}
use Rattle.evaluation.specs.Short.{note_of}
use Rattle.meaning.specs.Every.{every}
use Rattle.record_theory.specs.InStep.{is_apart, rests_on}
use Rattle.instance_records.specs.Readings.{notes_in}
use Rattle.instance_records.proofs.Touched.{own_apart}
use Rattle.instance_records.proofs.readings.Readings.are_touched.Goals as goal

pub returns-in-Two : goal.returns-in-Two
returns-in-Two c = record {
  apart = λ e.
      ap (every (is_apart c.args.changes.now)) (sym c.self.view_is ∙ ap notes_in c.in-Two.is)
      ∙ own_apart c.args.changes.now (map note_of c.in-Two.pair) (sym c.are_own_touched-in-Two.ensures.touched ∙ e);
}

pub returns-in-One : goal.returns-in-One
returns-in-One c = record {
  apart = λ e.
      let untouched : list_any (λ note. list_any (rests_on note) c.args.changes.now) (note_of c.in-One.reading ∷ []) ≡ false =
      ap (λ rs. list_any (λ note. list_any (rests_on note) c.args.changes.now) (map note_of rs)) (sym c.from_ref.ensures.value) ∙ sym c.are_own_touched.ensures.touched ∙ e in
      ap (every (is_apart c.args.changes.now)) (sym c.self.view_is ∙ ap notes_in c.in-One.is)
      ∙ own_apart c.args.changes.now (note_of c.in-One.reading ∷ []) untouched;
}
