use Rattle.std.proofs.Common.{rules, ◌≡◌, IfSome, ℤ, subst, sym, w64, to_z, of_z}
use Rattle.evaluation.specs.Values.{applied, pure}
use Rattle.evaluation.proofs.Rows.{if_some}
use Rattle.own_statements.proofs.found.+value.Goals as goal

pub value_in-returns-in-Joined : goal.value_in-returns-in-Joined
value_in-returns-in-Joined t c =
    let op = c.in-Joined.operator in
    let x = c.in-Joined.left in
    let y = c.in-Joined.right in
    let left : to_z w64 (of_z w64 x) ≡ x = search rules in
    let right : to_z w64 (of_z w64 y) ≡ y = search rules in
    let found : IfSome c.joined.result (λ v. applied op x y ≡ pure v) =
    subst (λ (n : ℤ). IfSome c.joined.result (λ v. applied op n y ≡ pure v)) left
    (subst (λ (n : ℤ). IfSome c.joined.result (λ v. applied op (to_z w64 (of_z w64 x)) n ≡ pure v)) right c.joined.ensures.value) in
    record { value = if_some c.joined.result (λ v is. c.in-Joined.ensures.part v is) found }
