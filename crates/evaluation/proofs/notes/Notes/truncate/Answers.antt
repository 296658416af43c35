use Rattle.std.proofs.Common.{map, take, ap, sym, ◌∙◌}
use Rattle.std.proofs.lemmas.List.{take-map}
use Rattle.evaluation.specs.Short.{note_of}
use Rattle.evaluation.proofs.notes.Notes.truncate.Goals as goal

pub returns : goal.returns
returns c = record {
  first = ap (map note_of) c.truncate.ensures.items ∙ sym (take-map note_of c.args.count c.self.inside.readings.items) ∙ ap (take c.args.count) c.self.view_is;
}
