use Rattle.std.proofs.Common.{◌∙◌, List, Some, length, slice_set, refl, sym, ap}
use Rattle.std.proofs.lemmas.Option.{slice_get_read}
use Rattle.positions.specs.Activations.{PlainActivation}
use Rattle.running_ahead.proofs.children.take_at.Goals as goal

pub returns-clause-there : goal.returns-clause-there
returns-clause-there c =
    let xs : List PlainActivation = c.args.above.now.items in
    slice_get_read xs (length xs) c.args.place c.index_mut.result.now refl c.requires.within c.index_mut.ensures.value ∙ ap Some (sym c.replace.ensures.value)

pub returns-clause-left : goal.returns-clause-left
returns-clause-left c = ap (slice_set c.args.above.now.items c.args.place) c.replace.ensures.after
