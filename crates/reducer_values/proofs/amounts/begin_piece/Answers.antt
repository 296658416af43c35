use Rattle.std.proofs.Common.{rules, ◌≡◌, ◌∷◌, [], ◌++◌, ◌∙◌, ap, map}
use Rattle.std.specs.Int.{w64}
use Rattle.std.specs.Prelude.{FitsSigned}
use Rattle.monoid_laws.specs.Kinds.{merged, IsRising}
use Rattle.std.proofs.Common.{sym, subst}
use Rattle.reducer_values.proofs.WhereOk.{on_ok, not_ok}
use Rattle.reducer_values.proofs.Ends.{merged_more}
use Rattle.reducer_values.proofs.amounts.begin_piece.Goals as goal
use Rattle.reducer_values.proofs.amounts.begin_piece.Goals.{in-Ok, in-Err}

pub returns-clause-added : goal.returns-clause-added
returns-clause-added c =
    let f : FitsSigned w64 c.args.key = c.ranges.key in
    let g : FitsSigned w64 c.args.amount = c.ranges.amount in
    let piece = c.push_reserved.new.self in
    let e : piece.items ≡ (c.args.key, c.args.amount) ∷ [] = search rules in
    elim c.match-push.branch [
      | in-Ok w ↦
          (let m : c.push.new.self.items ≡ c.args.pieces.now.items ++ piece ∷ [] = search rules in
          on_ok c.match-push.result _
          (ap (λ l. merged (map (λ p. p.items) l)) m ∙ merged_more (λ p. p.items) c.args.pieces.now.items piece ((c.args.key, c.args.amount) ∷ []) (subst IsRising (sym e) (tt, tt)) e))
      | in-Err w ↦ not_ok c.match-push.result _ _ w.result-is
    ]
