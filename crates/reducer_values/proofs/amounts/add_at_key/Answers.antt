use Rattle.std.proofs.Common.{◌≡◌, ◌∷◌, [], ◌∙◌, ap, sym, subst, map}
use Rattle.std.specs.Int.{w64}
use Rattle.std.specs.Prelude.{FitsSigned}
use Rattle.std.proofs.lemmas.Int.{to_z-of_z}
use Rattle.std.proofs.lemmas.Result.{on_ok_weaker}
use Rattle.monoid_laws.specs.Worth.{amounts, the_amounts}
use Rattle.monoid_laws.specs.Kinds.{merge, merged, meaning, add_at, IsAmounts}
use Rattle.monoid_laws.proofs.Amounts.{merge_one}
use Rattle.reducer_values.proofs.amounts.add_at_key.Goals as goal

pub returns-in-Hist-clause-added : goal.returns-in-Hist-clause-added
returns-in-Hist-clause-added c =
    let f : FitsSigned w64 c.args.key = c.ranges.key in
    let g : FitsSigned w64 c.args.amount = c.ranges.amount in
    let held = c.in-Hist.held in
    let is : IsAmounts (amounts held.items) = subst (λ v. IsAmounts (meaning v)) c.in-Hist.is c.split_full.ensures.still in
    on_ok_weaker c.add_amount.result
    (λ (e : c.add_amount.new.amounts.items ≡ add_at c.args.key c.args.amount held.items).
    ap amounts (e ∙ sym (merge_one held.items (c.args.key, c.args.amount) is.1))
    ∙ ap (λ w. amounts (merge (the_amounts w) ((c.args.key, c.args.amount) ∷ []))) (sym (ap meaning c.in-Hist.is) ∙ c.split_full.ensures.same))
    (simp to_z-of_z at c.add_amount.ensures.added)

pub returns-in-HistPieces-clause-added : goal.returns-in-HistPieces-clause-added
returns-in-HistPieces-clause-added c =
    let f : FitsSigned w64 c.args.key = c.ranges.key in
    let g : FitsSigned w64 c.args.amount = c.ranges.amount in
    let pieces = c.in-HistPieces.pieces in
    on_ok_weaker c.add_to_pieces.result
    (λ (e : merged (map (λ p. p.items) c.add_to_pieces.new.pieces.items) ≡ merge (merged (map (λ p. p.items) pieces.items)) ((c.args.key, c.args.amount) ∷ [])).
    ap amounts e ∙ ap (λ w. amounts (merge (the_amounts w) ((c.args.key, c.args.amount) ∷ []))) (sym (ap meaning c.in-HistPieces.is) ∙ c.split_full.ensures.same))
    (simp to_z-of_z at c.add_to_pieces.ensures.added)
