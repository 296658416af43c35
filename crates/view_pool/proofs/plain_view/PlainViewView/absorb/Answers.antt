use Rattle.std.proofs.Common.{◌≡◌, sym, subst}
use Rattle.monoid_laws.specs.Kinds.{meaning, IsWorth}
use Rattle.monoid_laws.proofs.Laws.{operate_right}
use Rattle.view_pool.specs.Seen.{Seen}
use Rattle.reducer_values.proofs.WhereOk.{on_ok}
use Rattle.view_pool.proofs.Kept.{IsWorth-combined}
use Rattle.view_pool.proofs.plain_view.PlainViewView.absorb.Goals as goal

pub invariant_of-self : goal.invariant_of-self
invariant_of-self c =
    let of_kind : IsWorth c.self.inside.kind (meaning c.args.value) = subst (λ (s : Seen). IsWorth s.kind (meaning c.args.value)) (sym c.self.view_is) c.requires.of_kind in
    subst (IsWorth c.self.inside.kind) (sym (c.combine_at_once.ensures.combined c.if-combine_at_once.true))
    (operate_right c.self.inside.kind (meaning c.self.inside.value) (meaning c.args.value) c.self.invariant of_kind)

pub invariant_of-self-2 : goal.invariant_of-self-2
invariant_of-self-2 c =
    let same : meaning c.combine_at_once.new.left ≡ meaning c.self.inside.value = c.combine_at_once.ensures.same c.if-combine_at_once.false in
    IsWorth-combined c.combine_in_pieces.result c.self.inside.kind (meaning c.combine_at_once.new.left) (meaning c.combine_in_pieces.new.left) (meaning c.args.value) c.combine_in_pieces.ensures.combined
    (on_ok c.combine_in_pieces.result (IsWorth c.self.inside.kind (meaning c.args.value))
    (subst (λ (s : Seen). IsWorth s.kind (meaning c.args.value)) (sym c.self.view_is) c.requires.of_kind))
    c.combine_in_pieces.ensures.refused (subst (IsWorth c.self.inside.kind) (sym same) c.self.invariant)
