use Rattle.std.proofs.Common.{rules, ◌≡◌, ◌∷◌, [], ◌++◌, map}
use Rattle.monoid_laws.specs.Kinds.{merge, merged, IsRising}
use Rattle.reducer_values.proofs.Ends.{merged_two}
use Rattle.reducer_values.proofs.amounts.merge_two.Goals as goal

pub returns-then-merge_behind : goal.returns-then-merge_behind
returns-then-merge_behind c =
    let right = c.in-Some.right in
    let rest = c.pop.new.self.items in
    let is : c.args.pieces.now.items ≡ rest ++ right ∷ [] = search rules in
    let r : IsRising right.items = search rules in
    let e : merged (map (λ p. p.items) c.merge_behind.new.pieces.items) ≡ merge (merged (map (λ p. p.items) rest)) right.items = search rules in
    merged_two (λ p. p.items) c.args.pieces.now.items rest c.merge_behind.new.pieces.items right is r e
