use Rattle.std.proofs.Common.{rules, ◌≡◌, ◌∙◌, IfSome, ℤ, slice_get, subst, to_z, of_z, w64, FitsSigned}
use Rattle.std.proofs.lemmas.Int.{to_z-of_z}
use Rattle.evaluation.specs.Slots.{number_in}
use Rattle.evaluation.specs.Values.{applied, pure}
use Rattle.evaluation.proofs.Rows.{if_some}
use Rattle.own_statements.proofs.Links.{slot_to_right}
use Rattle.own_statements.proofs.chains.slot_right.Goals as goal

pub returns : goal.returns
returns c =
    let op = c.args.operator in
    let x = c.args.value in
    let ss = c.args.slots.now in
    let n = to_z w64 (of_z w64 c.number_in.result) in
    let fits : FitsSigned w64 c.number_in.result = search rules in
    let number : n ≡ number_in (slice_get ss c.args.slot) = to_z-of_z w64 c.number_in.result fits ∙ c.number_in.ensures in
    let first : to_z w64 (of_z w64 x) ≡ x = search rules in
    let found : IfSome c.joined.result (λ v. applied op x n ≡ pure v) =
    subst (λ (m : ℤ). IfSome c.joined.result (λ v. applied op m n ≡ pure v)) first c.joined.ensures.value in
    record { value = if_some c.joined.result (λ v is keeps all e h. slot_to_right keeps all ss op e x n v c.args.slot number is h) found }
