use Rattle.std.proofs.Common.{◌≡◌, ◌∷◌, [], ◌++◌, ◌∙◌, ap, sym, map}
use Rattle.std.specs.Int.{w64}
use Rattle.std.specs.Prelude.{FitsSigned}
use Rattle.std.proofs.lemmas.Int.{to_z-of_z}
use Rattle.std.proofs.lemmas.Result.{on_ok_weaker}
use Rattle.monoid_laws.specs.Worth.{items, the_items}
use Rattle.monoid_laws.specs.Kinds.{joined, meaning}
use Rattle.reducer_values.proofs.lists.add_number.Goals as goal

pub returns-in-Pieces-clause-added : goal.returns-in-Pieces-clause-added
returns-in-Pieces-clause-added c =
    let f : FitsSigned w64 c.args.number = c.ranges.number in
    let pieces = c.in-Pieces.pieces in
    on_ok_weaker c.push_number.result
    (λ (e : joined (map (λ p. p.items) c.push_number.new.pieces.items) ≡ joined (map (λ p. p.items) pieces.items) ++ c.args.number ∷ []).
    ap items e ∙ ap (λ w. items (the_items w ++ c.args.number ∷ [])) (sym (ap meaning c.in-Pieces.is) ∙ c.split_full.ensures))
    (simp to_z-of_z at c.push_number.ensures.pushed)
