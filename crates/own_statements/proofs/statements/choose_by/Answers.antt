use Rattle.std.proofs.Common.{rules, ◌≡◌, ℤ, inr, subst, to_z, of_z, w64}
use Rattle.own_statements.specs.Fills.{Fills}
use Rattle.own_statements.proofs.statements.choose_by.Goals as goal

pub returns-in-Nothing-clause-done : goal.returns-in-Nothing-clause-done
returns-in-Nothing-clause-done c l o h =
    let w = c.args.value in
    let same : w ≡ to_z w64 (of_z w64 w) = search rules in
    let found : Fills o (to_z w64 (of_z w64 w)) l l = subst (λ (x : ℤ). Fills o x l l) same h in
    c.in-Nothing.ensures.done c.args.here.passes_syncs c.args.here.statement l o found

pub returns-in-Passed-clause-done : goal.returns-in-Passed-clause-done
returns-in-Passed-clause-done c l o h =
    let w = c.args.value in
    let same : w ≡ to_z w64 (of_z w64 w) = search rules in
    let found : Fills o (to_z w64 (of_z w64 w)) l l = subst (λ (x : ℤ). Fills o x l l) same h in
    inr (c.args.second, c.in-Passed.ensures.empty, c.in-Passed.ensures.done c.args.here.passes_syncs c.args.here.statement l o found)

pub returns-in-Inside-clause-done : goal.returns-in-Inside-clause-done
returns-in-Inside-clause-done c l o h =
    let w = c.args.value in
    let same : w ≡ to_z w64 (of_z w64 w) = search rules in
    let found : Fills o (to_z w64 (of_z w64 w)) l l = subst (λ (x : ℤ). Fills o x l l) same h in
    c.in-Inside.ensures.done c.args.here.passes_syncs c.args.here.statement l o found
