use Rattle.std.proofs.Common.{rules, ◌≡◌, ◌∷◌, [], ◌++◌, ap}
use Rattle.std.specs.Int.{w64}
use Rattle.std.specs.Prelude.{FitsSigned}
use Rattle.std.proofs.lemmas.Int.{to_z-of_z}
use Rattle.monoid_laws.specs.Kinds.{joined}
use Rattle.reducer_values.proofs.Ends.{joined_last, same_last}
use Rattle.reducer_values.proofs.lists.push_in_last.Goals as goal

pub returns-in-Ok-clause-pushed : goal.returns-in-Ok-clause-pushed
returns-in-Ok-clause-pushed c =
    let f : FitsSigned w64 c.args.number = c.ranges.number in
    let piece = c.index_mut-piece.result.now in
    let e : c.push.new.self.items ≡ piece.items ++ c.args.number ∷ [] = simp to_z-of_z at c.in-Ok.ensures.items in
    joined_last (λ p. p.items) c.args.pieces.now.items c.args.last piece c.push.new.self (c.args.number ∷ []) c.requires c.index_mut-piece.ensures.value e

pub returns-in-Err-clause-refused : goal.returns-in-Err-clause-refused
returns-in-Err-clause-refused c =
    let piece = c.index_mut-piece.result.now in
    let e : c.push.new.self.items ≡ piece.items = search rules in
    ap joined (same_last (λ p. p.items) c.args.pieces.now.items c.args.last piece c.push.new.self c.index_mut-piece.ensures.value e)
