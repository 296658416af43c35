-- An update of a reducer whose kind is known: the numbers name an element, or they don't.
use Rattle.std.proofs.Common.{◌≡◌, ℕ, ℤ, Bool, true, false, if◌then◌else◌, List, Some, slice_get, sym, ap, ◌∙◌}
use Rattle.monoid_laws.specs.declared.Kind.{Kind}
use Rattle.monoid_laws.specs.Kinds.{names_element}
use Rattle.meaning.specs.declared.FaultKind.TheVariants.{BadElement}
use Rattle.positions.specs.declared.work.Position.{Position}
use Rattle.positions.specs.Layers.{PlainLayer, updating}
use Rattle.positions.specs.Strands.{PlainStrand}
use Rattle.positions.specs.Advance.{combining, faulted, if_named, moved_on}

module _ (kinds : List Kind) (n : ℕ) (p : Position) (r : ℕ) (kind : Kind) (vs : List ℤ) (s : PlainStrand) (l : PlainLayer) (named : Bool)
    (there : slice_get kinds r ≡ Some kind) (is_named : named ≡ names_element kind vs) (updated : l ≡ (if named then updating r kind vs s.layer else s.layer)) where
  combined_by : if_named named n p r kind vs s ≡ combining (slice_get kinds r) n p r vs s
  combined_by = ap (λ b. if_named b n p r kind vs s) is_named ∙ sym (ap (λ k. combining k n p r vs s) there)

  pub is_combined : named ≡ true → moved_on p (record s { layer = l }) ≡ combining (slice_get kinds r) n p r vs s
  is_combined e =
      ap (λ (m : PlainLayer). moved_on p (record s { layer = m })) (updated ∙ ap (λ b. if b then updating r kind vs s.layer else s.layer) e)
      ∙ ap (λ b. if_named b n p r kind vs s) (sym e) ∙ combined_by

  pub is_refused : named ≡ false → faulted n BadElement (record s { layer = l }) ≡ combining (slice_get kinds r) n p r vs s
  is_refused e =
      ap (λ (m : PlainLayer). faulted n BadElement (record s { layer = m })) (updated ∙ ap (λ b. if b then updating r kind vs s.layer else s.layer) e)
      ∙ ap (λ b. if_named b n p r kind vs s) (sym e) ∙ combined_by
