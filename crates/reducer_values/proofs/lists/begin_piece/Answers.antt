use Rattle.std.proofs.Common.{rules, ◌≡◌, ◌∷◌, [], ◌++◌, ◌∙◌, ap, map}
use Rattle.std.specs.Int.{w64}
use Rattle.std.specs.Prelude.{FitsSigned}
use Rattle.monoid_laws.specs.Kinds.{joined}
use Rattle.reducer_values.proofs.WhereOk.{on_ok, not_ok}
use Rattle.reducer_values.proofs.Ends.{joined_more}
use Rattle.reducer_values.proofs.lists.begin_piece.Goals as goal
use Rattle.reducer_values.proofs.lists.begin_piece.Goals.{in-Ok, in-Err}

pub returns-clause-pushed : goal.returns-clause-pushed
returns-clause-pushed c =
    let f : FitsSigned w64 c.args.number = c.ranges.number in
    let piece = c.push_reserved.new.self in
    let e : piece.items ≡ c.args.number ∷ [] = search rules in
    elim c.match-push.branch [
      | in-Ok w ↦
          (let m : c.push.new.self.items ≡ c.args.pieces.now.items ++ piece ∷ [] = search rules in
          on_ok c.match-push.result _
          (ap (λ l. joined (map (λ p. p.items) l)) m ∙ joined_more (λ p. p.items) c.args.pieces.now.items piece (c.args.number ∷ []) e))
      | in-Err w ↦ not_ok c.match-push.result _ _ w.result-is
    ]
