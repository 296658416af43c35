use Rattle.std.proofs.Common.{◌∙◌, ◌∷◌, [], ap, map}
use Rattle.std.proofs.lemmas.List.{map-append}
use Rattle.monoid_laws.specs.Kinds.{merged}
use Rattle.reducer_values.proofs.JoinedPieces.{merged-push}
use Rattle.reducer_values.proofs.adding.push_piece.Goals as goal

pub returns-in-Ok-clause-merged : goal.returns-in-Ok-clause-merged
returns-in-Ok-clause-merged c =
    ap (λ l. merged (map (λ p. p.items) l)) c.in-Ok.ensures.items
    ∙ ap merged (map-append (λ p. p.items) c.args.pieces.now.items (c.args.more ∷ []))
    ∙ merged-push (map (λ p. p.items) c.args.pieces.now.items) c.args.more.items c.requires
