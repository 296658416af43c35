use Rattle.std.proofs.Common.{rules, ◌≡◌, map, []}
use Rattle.std.specs.Cmp.Lexicographic.{pointwise}
use Rattle.monoid_laws.specs.Kinds.{merged}
use Rattle.positions.specs.Values.{same_pair}
use Rattle.positions.specs.Identities.{are_nil}
use Rattle.positions.proofs.Empties.{no_amounts}
use Rattle.positions.proofs.identities.is_no_amounts.Goals as goal

pub returns-in-HistPieces : goal.returns-in-HistPieces
returns-in-HistPieces c =
    let e : are_nil (map (λ p. p.items) c.in-HistPieces.pieces.items) ≡ pointwise same_pair (merged (map (λ p. p.items) c.in-HistPieces.pieces.items)) [] =
    no_amounts (map (λ p. p.items) c.in-HistPieces.pieces.items) in
    search (rules, e)
