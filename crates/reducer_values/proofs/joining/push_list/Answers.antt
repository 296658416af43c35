use Rattle.std.proofs.Common.{◌∙◌, ◌++◌, ◌∷◌, [], ap, map, sym}
use Rattle.std.proofs.lemmas.List.{map-append}
use Rattle.monoid_laws.specs.Worth.{items, the_items}
use Rattle.monoid_laws.specs.Kinds.{joined, meaning}
use Rattle.reducer_values.proofs.JoinedPieces.{joined-push}
use Rattle.reducer_values.proofs.joining.push_list.Goals as goal

pub returns-in-Ok-clause-joined : goal.returns-in-Ok-clause-joined
returns-in-Ok-clause-joined c =
    ap items (ap (λ l. joined (map (λ p. p.items) l)) c.in-Ok.ensures.items
    ∙ ap joined (map-append (λ p. p.items) c.in-Pieces.pieces.items (c.args.more ∷ []))
    ∙ joined-push (map (λ p. p.items) c.in-Pieces.pieces.items) c.args.more.items
    ∙ ap (λ v. the_items (meaning v) ++ c.args.more.items) (sym c.in-Pieces.is))
