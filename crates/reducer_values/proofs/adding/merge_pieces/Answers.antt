use Rattle.std.proofs.Common.{◌∙◌, ap, map, sym}
use Rattle.std.proofs.lemmas.List.{map-append}
use Rattle.std.proofs.lemmas.Result.{on_ok_weaker}
use Rattle.monoid_laws.specs.Worth.{amounts, the_amounts}
use Rattle.monoid_laws.specs.Kinds.{merge, merged, meaning}
use Rattle.reducer_values.proofs.JoinedPieces.{merged-append}
use Rattle.reducer_values.proofs.adding.merge_pieces.Goals as goal

pub returns-in-HistPieces-clause-merged : goal.returns-in-HistPieces-clause-merged
returns-in-HistPieces-clause-merged c =
    on_ok_weaker c.append_pieces.result
    (λ e. ap amounts (ap (λ l. merged (map (λ p. p.items) l)) e
    ∙ ap merged (map-append (λ p. p.items) c.in-HistPieces.pieces.items c.args.more.items)
    ∙ merged-append (map (λ p. p.items) c.in-HistPieces.pieces.items) (map (λ p. p.items) c.args.more.items)
    ∙ ap (λ v. merge (the_amounts (meaning v)) (merged (map (λ p. p.items) c.args.more.items))) (sym c.in-HistPieces.is)))
    c.append_pieces.ensures.joined
