use Rattle.std.proofs.Common.{◌≡◌, ◌∷◌, [], ◌<◌, ◌∙◌, ap, sym, subst, arith, length}
use Rattle.std.specs.Int.{w64}
use Rattle.std.specs.Prelude.{FitsSigned}
use Rattle.std.proofs.lemmas.Int.{to_z-of_z}
use Rattle.std.proofs.lemmas.Result.{on_ok_weaker, on_err_weaker}
use Rattle.monoid_laws.specs.Kinds.{merged, add_at, IsRising}
use Rattle.monoid_laws.proofs.Amounts.{merge_one}
use Rattle.reducer_values.proofs.Ends.{merged_last, same_last, at_item}
use Rattle.reducer_values.proofs.amounts.add_in_last.Goals as goal

pub returns-clause-added : goal.returns-clause-added
returns-clause-added c =
    let f : FitsSigned w64 c.args.key = c.ranges.key in
    let g : FitsSigned w64 c.args.amount = c.ranges.amount in
    let ps = c.args.pieces.now.items in
    let piece = c.index_mut-piece.result.now in
    let h : c.args.last < length ps = omega (arith, c.requires.last) in
    let r : IsRising piece.items = subst IsRising (at_item (λ p. p.items) ps c.args.last piece h c.index_mut-piece.ensures.value) c.requires.rising in
    on_ok_weaker c.add_amount.result
    (λ (e : c.add_amount.new.amounts.items ≡ add_at c.args.key c.args.amount piece.items).
    merged_last (λ p. p.items) ps c.args.last piece c.add_amount.new.amounts ((c.args.key, c.args.amount) ∷ []) (tt, tt) c.requires.last c.index_mut-piece.ensures.value
    (e ∙ sym (merge_one piece.items (c.args.key, c.args.amount) r)))
    (simp to_z-of_z at c.add_amount.ensures.added)

pub returns-clause-refused : goal.returns-clause-refused
returns-clause-refused c =
    let ps = c.args.pieces.now.items in
    let piece = c.index_mut-piece.result.now in
    on_err_weaker c.add_amount.result
    (λ (e : c.add_amount.new.amounts.items ≡ piece.items). ap merged (same_last (λ p. p.items) ps c.args.last piece c.add_amount.new.amounts c.index_mut-piece.ensures.value e))
    c.add_amount.ensures.refused
