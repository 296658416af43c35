use Rattle.std.proofs.Common.{rules, ◌≡◌, map, []}
use Rattle.std.specs.Ordering.{int_eq}
use Rattle.std.specs.Cmp.Lexicographic.{pointwise}
use Rattle.monoid_laws.specs.Kinds.{joined}
use Rattle.positions.specs.Identities.{are_nil}
use Rattle.positions.proofs.Empties.{no_items}
use Rattle.positions.proofs.identities.is_no_items.Goals as goal

pub returns-in-Pieces : goal.returns-in-Pieces
returns-in-Pieces c =
    let e : are_nil (map (λ p. p.items) c.in-Pieces.pieces.items) ≡ pointwise int_eq (joined (map (λ p. p.items) c.in-Pieces.pieces.items)) [] =
    no_items (map (λ p. p.items) c.in-Pieces.pieces.items) in
    search (rules, e)
