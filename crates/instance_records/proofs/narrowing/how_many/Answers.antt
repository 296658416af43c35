use Rattle.std.proofs.Common.{[], ◌∷◌, map, ap, ◌∙◌}
use Rattle.evaluation.specs.Short.{note_of}
use Rattle.record_theory.specs.InStep.{is_apart}
use Rattle.instance_records.specs.Readings.{node_notes}
use Rattle.record_theory.specs.Same.{is_read}
use Rattle.instance_records.proofs.Narrowed.{same_many, alone_is, left_rest, right_rest}
use Rattle.instance_records.proofs.narrowing.how_many.Goals as goal

pub returns-in-None-clause-lost : goal.returns-in-None-clause-lost
returns-in-None-clause-lost c =
    let q = is_apart (c.args.change.now ∷ []) in
    c.how_many_own.ensures.many
    ∙ same_many q c.args.lost.now (map note_of c.touched_to-own.result.now) (node_notes c.args.node.now) (left_rest q c.args.lost.now c.args.won.now c.requires.rest)
    (λ note h. c.touched_to-own.ensures.same note h ∙ c.touched_on.ensures.same note h ∙ ap (λ rs. is_read (map note_of rs) note) c.as_slice.ensures.items ∙ alone_is c.args.node.now note c.in-None.is)

pub returns-in-None-clause-won : goal.returns-in-None-clause-won
returns-in-None-clause-won c =
    let q = is_apart (c.args.change.now ∷ []) in
    c.how_many_own-in-None.ensures.many
    ∙ same_many q c.args.won.now (map note_of c.touched_to-own.result.now) (node_notes c.args.node.now) (right_rest q c.args.lost.now c.args.won.now c.requires.rest)
    (λ note h. c.touched_to-own.ensures.same note h ∙ c.touched_on.ensures.same note h ∙ ap (λ rs. is_read (map note_of rs) note) c.as_slice.ensures.items ∙ alone_is c.args.node.now note c.in-None.is)
