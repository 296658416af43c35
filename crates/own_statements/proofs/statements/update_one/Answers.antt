use Rattle.std.proofs.Common.{rules, ◌≡◌, ℤ, subst, to_z, of_z, w64}
use Rattle.own_statements.specs.Fills.{Fills}
use Rattle.own_statements.proofs.statements.update_one.Goals as goal

pub returns-then-updates_one-clause-done : goal.returns-then-updates_one-clause-done
returns-then-updates_one-clause-done g c a o found =
    let v = c.args.number in
    let l = c.args.layer.now in
    let same : v ≡ to_z w64 (of_z w64 v) = search rules in
    c.if-updates_one.ensures.done a o (subst (λ (x : ℤ). Fills o x l l) same found)

pub returns-else-updates_one-clause-done : goal.returns-else-updates_one-clause-done
returns-else-updates_one-clause-done g c a o found =
    let v = c.args.number in
    let l = c.args.layer.now in
    let same : v ≡ to_z w64 (of_z w64 v) = search rules in
    c.if-updates_one.ensures.done a o (subst (λ (x : ℤ). Fills o x l l) same found)
