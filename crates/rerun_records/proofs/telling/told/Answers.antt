use Rattle.std.proofs.Common.{[], ◌∷◌, map, ◌∙◌}
use Rattle.evaluation.specs.Short.{note_of}
use Rattle.record_theory.specs.InStep.{is_apart}
use Rattle.instance_records.proofs.Narrowed.{same_number}
use Rattle.rerun_records.proofs.telling.told.Goals as goal

pub returns-in-Some : goal.returns-in-Some
returns-in-Some c = record {
  told = c.number_after.ensures.after
      ∙ same_number (is_apart (c.args.change.now ∷ [])) c.args.lost.now c.args.won.now (map note_of c.in-Some.own.now) c.args.reads.now c.args.number c.how_many_own.result c.how_many_own-in-Some.result c.requires.rest
      c.in-Some.ensures.same c.how_many_own.ensures.many c.how_many_own-in-Some.ensures.many;
}
