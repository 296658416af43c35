use Rattle.std.proofs.Common.{rules, ◌≡◌, ◌∙◌, ℤ, [], ◌∷◌, ap, to_z, of_z, w64}
use Rattle.evaluation.specs.Values.{pure}
use Rattle.own_statements.proofs.statements.updates_two.Goals as goal

pub returns-clause-done : goal.returns-clause-done
returns-clause-done g c a o read =
    let v = c.args.first in
    let w = c.args.second in
    let same : v ≡ to_z w64 (of_z w64 v) = search rules in
    let other : w ≡ to_z w64 (of_z w64 w) = search rules in
    c.updates_by.ensures.done a o (read ∙ ap (λ (x : ℤ). pure (x ∷ w ∷ [])) same ∙ ap (λ (x : ℤ). pure (to_z w64 (of_z w64 v) ∷ x ∷ [])) other)
