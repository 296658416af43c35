use Rattle.std.proofs.Common.{◌≡◌, map}
use Rattle.monoid_laws.specs.Kinds.{merged}
use Rattle.reducer_values.proofs.amounts.merge_last.Given as goal

abbrev pub invariant-loop : goal.invariant-loop
invariant-loop l = merged (map (λ p. p.items) l.pieces.items) ≡ merged (map (λ p. p.items) l.fn.pieces.items)
