use Rattle.std.proofs.Common.{rules, ◌≡◌, ◌∙◌, ℤ, [], ◌∷◌, ap, to_z, of_z, w64}
use Rattle.evaluation.specs.Values.{pure}
use Rattle.own_statements.proofs.statements.update_two.Goals as goal

pub returns-then-updates_two-clause-done : goal.returns-then-updates_two-clause-done
returns-then-updates_two-clause-done g c a o read =
    let v = c.args.first in
    let w = c.args.second in
    let same : v ≡ to_z w64 (of_z w64 v) = search rules in
    let other : w ≡ to_z w64 (of_z w64 w) = search rules in
    c.if-updates_two.ensures.done a o (read ∙ ap (λ (x : ℤ). pure (x ∷ w ∷ [])) same ∙ ap (λ (x : ℤ). pure (to_z w64 (of_z w64 v) ∷ x ∷ [])) other)

pub returns-else-updates_two-clause-done : goal.returns-else-updates_two-clause-done
returns-else-updates_two-clause-done g c a o read =
    let v = c.args.first in
    let w = c.args.second in
    let same : v ≡ to_z w64 (of_z w64 v) = search rules in
    let other : w ≡ to_z w64 (of_z w64 w) = search rules in
    c.if-updates_two.ensures.done a o (read ∙ ap (λ (x : ℤ). pure (x ∷ w ∷ [])) same ∙ ap (λ (x : ℤ). pure (to_z w64 (of_z w64 v) ∷ x ∷ [])) other)
