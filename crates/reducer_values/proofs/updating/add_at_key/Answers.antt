use Rattle.std.proofs.Common.{◌≡◌, ◌∷◌, [], ◌∙◌, ap, sym, subst}
use Rattle.std.specs.Int.{w64}
use Rattle.std.specs.Prelude.{FitsSigned}
use Rattle.std.proofs.lemmas.Int.{to_z-of_z}
use Rattle.std.proofs.lemmas.Result.{on_ok_weaker}
use Rattle.monoid_laws.specs.Worth.{amounts, the_amounts}
use Rattle.monoid_laws.specs.Kinds.{merge, meaning, add_at, IsAmounts}
use Rattle.monoid_laws.proofs.Amounts.{merge_one}
use Rattle.reducer_values.proofs.updating.add_at_key.Goals as goal

pub returns-in-Hist-clause-added : goal.returns-in-Hist-clause-added
returns-in-Hist-clause-added c =
    let f : FitsSigned w64 c.args.key = c.ranges.key in
    let g : FitsSigned w64 c.args.amount = c.ranges.amount in
    let is : IsAmounts (amounts c.in-Hist.held.items) = subst (λ v. IsAmounts (meaning v)) c.in-Hist.is c.requires in
    on_ok_weaker c.add_amount.result
    (λ (e : c.add_amount.new.amounts.items ≡ add_at c.args.key c.args.amount c.in-Hist.held.items).
    ap amounts (e ∙ sym (merge_one c.in-Hist.held.items (c.args.key, c.args.amount) is.1) ∙ ap (λ v. merge (the_amounts (meaning v)) ((c.args.key, c.args.amount) ∷ [])) (sym c.in-Hist.is)))
    (simp to_z-of_z at c.add_amount.ensures.added)
