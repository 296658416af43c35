use Rattle.std.proofs.Common.{[], ◌∷◌, ap, sym, ◌∙◌}
use Rattle.record_theory.specs.InStep.{is_apart}
use Rattle.instance_records.specs.Readings.{node_notes, notes_in}
use Rattle.record_theory.specs.Same.{is_read}
use Rattle.instance_records.proofs.Narrowed.{same_many, left_rest, right_rest}
use Rattle.instance_records.proofs.readings.Readings.how_many.Goals as goal

pub returns-in-Shared-clause-lost : goal.returns-in-Shared-clause-lost
returns-in-Shared-clause-lost c =
    let q = is_apart (c.args.change.now ∷ []) in
    c.how_many.ensures.lost
    ∙ same_many q c.args.lost.now (node_notes c.lowest.result.now) c.args.self.now (left_rest q c.args.lost.now c.args.won.now c.requires.rest)
    (λ note h. c.lowest.ensures.same note h ∙ ap (λ n. is_read (node_notes n) note) c.deref.ensures ∙ ap (λ ns. is_read ns note) (sym (ap notes_in c.in-Shared.is) ∙ c.self.view_is))

pub returns-in-Shared-clause-won : goal.returns-in-Shared-clause-won
returns-in-Shared-clause-won c =
    let q = is_apart (c.args.change.now ∷ []) in
    c.how_many.ensures.won
    ∙ same_many q c.args.won.now (node_notes c.lowest.result.now) c.args.self.now (right_rest q c.args.lost.now c.args.won.now c.requires.rest)
    (λ note h. c.lowest.ensures.same note h ∙ ap (λ n. is_read (node_notes n) note) c.deref.ensures ∙ ap (λ ns. is_read ns note) (sym (ap notes_in c.in-Shared.is) ∙ c.self.view_is))
