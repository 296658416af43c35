use Rattle.std.proofs.Common.{◌≡◌, List, ◌∷◌, [], true, ap, ◌∙◌, subst}
use Rattle.sync_fold.specs.Books.{PlainLaid, ends_alone}
use Rattle.sync_fold.proofs.Keeping.{alone_popped, alone_whole}
use Rattle.sync_fold.proofs.laid.into_alone.Goals as goal

pub whole_of-requires : goal.whole_of-requires
whole_of-requires g c = record {
  whole = alone_whole c.in-Some.last (subst (λ (ds : List PlainLaid). ends_alone ds ≡ true) (alone_popped c.args.laid.items c.pop.new.self.items c.in-Some.last c.in-Some.ensures.items c.requires.ended) c.requires.ended);
}

pub returns : goal.returns
returns g c = record {
  alone = alone_popped c.args.laid.items c.pop.new.self.items c.in-Some.last c.in-Some.ensures.items c.requires.ended ∙ ap (λ (d : PlainLaid). d ∷ []) c.whole_of.ensures.whole;
}
