use Rattle.std.proofs.Common.{◌∙◌, ◌++◌, ap, map, sym}
use Rattle.std.proofs.lemmas.List.{map-append}
use Rattle.std.proofs.lemmas.Result.{on_ok_weaker}
use Rattle.monoid_laws.specs.Worth.{items, the_items}
use Rattle.monoid_laws.specs.Kinds.{joined, meaning}
use Rattle.reducer_values.proofs.JoinedPieces.{joined-append}
use Rattle.reducer_values.proofs.joining.push_pieces.Goals as goal

pub returns-in-Pieces-clause-joined : goal.returns-in-Pieces-clause-joined
returns-in-Pieces-clause-joined c =
    on_ok_weaker c.append_pieces.result
    (λ e. ap items (ap (λ l. joined (map (λ p. p.items) l)) e
    ∙ ap joined (map-append (λ p. p.items) c.in-Pieces.pieces.items c.args.more.items)
    ∙ joined-append (map (λ p. p.items) c.in-Pieces.pieces.items) (map (λ p. p.items) c.args.more.items)
    ∙ ap (λ v. the_items (meaning v) ++ joined (map (λ p. p.items) c.args.more.items)) (sym c.in-Pieces.is)))
    c.append_pieces.ensures.joined
