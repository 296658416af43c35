-- Kits that come home.
use Rattle.std.proofs.Common.{◌≡◌, List, ◌⊎◌, inl, inr, sym, ◌∙◌}
use Rattle.monoid_laws.specs.declared.Kind.{Kind}

-- a kit that may be given may have been given before, or is one of those that came home
pub either_kept : (Now Before : Type 0) (home kinds k : List Kind) → home ≡ kinds → (Now → Before ⊎ kinds ≡ k) → Now ⊎ home ≡ k → Before ⊎ kinds ≡ k
either_kept Now Before home kinds k e f (inl h) = f h
either_kept Now Before home kinds k e f (inr h) = inr (sym e ∙ h)
