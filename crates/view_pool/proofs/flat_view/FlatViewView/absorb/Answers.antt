use Rattle.std.proofs.Common.{sym, subst}
use Rattle.monoid_laws.specs.Kinds.{meaning, IsWorth}
use Rattle.view_pool.specs.Seen.{Seen}
use Rattle.reducer_values.proofs.WhereOk.{on_ok}
use Rattle.view_pool.proofs.Kept.{IsWorth-combined}
use Rattle.view_pool.proofs.flat_view.FlatViewView.absorb.Goals as goal

pub invariant_of-self : goal.invariant_of-self
invariant_of-self c =
    IsWorth-combined c.combine.result c.self.inside.kind (meaning c.self.inside.value) (meaning c.combine.new.left) (meaning c.args.value) c.combine.ensures.combined
    (on_ok c.combine.result (IsWorth c.self.inside.kind (meaning c.args.value))
    (subst (λ (s : Seen). IsWorth s.kind (meaning c.args.value)) (sym c.self.view_is) c.requires.of_kind))
    c.combine.ensures.refused c.self.invariant
