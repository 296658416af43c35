use Rattle.std.proofs.Common.{rules, ◌≡◌, IfSome, ℤ, subst, to_z, of_z, w64}
use Rattle.evaluation.specs.Values.{applied, pure}
use Rattle.evaluation.proofs.Rows.{if_some}
use Rattle.own_statements.proofs.Links.{number_to_right}
use Rattle.own_statements.proofs.chains.number_right.Goals as goal

pub returns : goal.returns
returns c =
    let op = c.args.operator in
    let x = c.args.value in
    let n = c.args.number in
    let first : to_z w64 (of_z w64 x) ≡ x = search rules in
    let second : to_z w64 (of_z w64 n) ≡ n = search rules in
    let found : IfSome c.joined.result (λ v. applied op x n ≡ pure v) =
    subst (λ (m : ℤ). IfSome c.joined.result (λ v. applied op m n ≡ pure v)) first
    (subst (λ (m : ℤ). IfSome c.joined.result (λ v. applied op (to_z w64 (of_z w64 x)) m ≡ pure v)) second c.joined.ensures.value) in
    record { value = if_some c.joined.result (λ v is keeps all slots e h. number_to_right keeps all slots op e x n v is h) found }
