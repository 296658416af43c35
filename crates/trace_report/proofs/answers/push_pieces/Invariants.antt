use Rattle.std.proofs.Common.{◌≡◌, ◌++◌, flat_map, map, string_bytes, drop}
use Rattle.monoid_laws.specs.Kinds.{joined}
use Rattle.meaning.specs.Text.{spaced}
use Rattle.trace_report.proofs.answers.push_pieces.Given as goal

-- what is written, and then the numbers of the pieces that are left
abbrev pub invariant-loop-piece : goal.invariant-loop-piece
invariant-loop-piece l =
    string_bytes l.text ++ flat_map spaced (joined (map (λ p. p.items) (drop l.piece-index l.pieces)))
    ≡ string_bytes l.fn.text ++ flat_map spaced (joined (map (λ p. p.items) l.fn.pieces))
