use Rattle.std.proofs.Common.{rules, ◌≡◌, ◌++◌, ap}
use Rattle.monoid_laws.specs.Kinds.{joined}
use Rattle.reducer_values.proofs.Ends.{joined_last, same_last}
use Rattle.reducer_values.proofs.lists.extend_in_last.Goals as goal

pub returns-in-Ok-clause-joined : goal.returns-in-Ok-clause-joined
returns-in-Ok-clause-joined c =
    let piece = c.index_mut-piece.result.now in
    let e : c.extend_from_slice.new.self.items ≡ piece.items ++ c.args.more.now = search rules in
    λ _. joined_last (λ p. p.items) c.args.pieces.now.items c.args.last piece c.extend_from_slice.new.self c.args.more.now c.requires c.index_mut-piece.ensures.value e

pub returns-in-Err-clause-same : goal.returns-in-Err-clause-same
returns-in-Err-clause-same c =
    let piece = c.index_mut-piece.result.now in
    let e : c.extend_from_slice.new.self.items ≡ piece.items = search rules in
    λ _. ap joined (same_last (λ p. p.items) c.args.pieces.now.items c.args.last piece c.extend_from_slice.new.self c.index_mut-piece.ensures.value e)
