use Rattle.std.proofs.Common.{rules, ◌≡◌, ◌∷◌, [], ◌∙◌, ap, sym, subst, map}
use Rattle.monoid_laws.specs.Worth.{amounts}
use Rattle.monoid_laws.specs.Kinds.{merge, merged, meaning, IsAmounts}
use Rattle.monoid_laws.proofs.Amounts.{merge_nil}
use Rattle.reducer_values.proofs.amounts.split_amounts.Goals as goal

pub returns-in-Ok : goal.returns-in-Ok
returns-in-Ok c =
    let held = c.in-Hist.held in
    let is : IsAmounts (amounts held.items) = subst (λ v. IsAmounts (meaning v)) c.in-Hist.is c.requires in
    let m : c.push_reserved.new.self.items ≡ c.replace.result ∷ [] = search rules in
    let h : c.replace.result.items ≡ held.items = search rules in
    ap (λ l. amounts (merged (map (λ p. p.items) l))) m ∙ ap (λ l. amounts (merge l [])) h ∙ ap amounts (merge_nil held.items (is.1)) ∙ sym (ap meaning c.in-Hist.is)
