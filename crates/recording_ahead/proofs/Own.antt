-- The layer for iterations that are recorded, which is there.
use Rattle.std.proofs.Common.{◌≡◌, ℕ, true, List, Option, None, Some, sym, subst, refl}
use Rattle.std.specs.Prelude.{IfSome}
use Rattle.monoid_laws.specs.declared.Kind.{Kind}
use Rattle.positions.specs.Layers.{PlainLayer, blank}
use Rattle.positions.specs.Strands.{PlainStrand}
use Rattle.running_ahead.specs.Leaves.{IsRefusedLeaf}
use Rattle.recording_ahead.specs.AnsweredChains.{IsOwn, IsRefusedBy}

-- in which nothing was noted yet
pub own_there : (kinds : List Kind) (n : ℕ) (own : Option PlainLayer) → own ≡ Some (blank true kinds n) → IsOwn kinds own
own_there kinds n own is = subst (IsOwn kinds) (sym is) refl

pub own_kept : (kinds : List Kind) (n : ℕ) (own : Option PlainLayer) → own ≡ Some (blank true kinds n) → IfSome own (λ o. o.kinds ≡ kinds)
own_kept kinds n own is = subst (λ (x : Option PlainLayer). IfSome x (λ o. o.kinds ≡ kinds)) (sym is) refl

-- it was taken
pub none_kept : (kinds : List Kind) (own : Option PlainLayer) → own ≡ None → IfSome own (λ o. o.kinds ≡ kinds)
none_kept kinds own is = subst (λ (x : Option PlainLayer). IfSome x (λ o. o.kinds ≡ kinds)) (sym is) tt

pub leaf_refused : (own : Option PlainLayer) (s t : PlainStrand) → own ≡ None → IsRefusedLeaf s t → IsRefusedBy own s t
leaf_refused own s t is h = subst (λ (x : Option PlainLayer). IsRefusedBy x s t) (sym is) h
