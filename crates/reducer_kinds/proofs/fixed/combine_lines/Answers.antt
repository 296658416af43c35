use Rattle.std.proofs.Common.{rules, ◌≡◌}
use Rattle.std.specs.Int.{w64}
use Rattle.std.specs.Prelude.{FitsSigned, ◌+ℤ◌, ◌*ℤ◌}
use Rattle.std.proofs.lemmas.Int.{to_z-of_z}
use Rattle.monoid_laws.specs.Kinds.{wrap}
use Rattle.monoid_laws.proofs.Numbers.{affine_parts}
use Rattle.monoid_laws.proofs.Laws.{line_same}
use Rattle.reducer_kinds.proofs.fixed.combine_lines.Goals as goal

pub returns : goal.returns
returns c =
    let p : FitsSigned w64 c.product_of.result = search rules in
    let s : FitsSigned w64 c.sum_of.result = search rules in
    let m : FitsSigned w64 c.product_of-moved.result = search rules in
    let f : FitsSigned w64 c.factor_of.result = search rules in
    let g : FitsSigned w64 c.factor_of-factor.result = search rules in
    let t : FitsSigned w64 c.term_of.result = search rules in
    let u : FitsSigned w64 c.term_of-2.result = search rules in
    let e1 : c.product_of.result ≡ wrap (c.factor_of.result *ℤ c.factor_of-factor.result) = simp to_z-of_z at c.product_of.ensures in
    let e2 : c.product_of-moved.result ≡ wrap (c.factor_of-factor.result *ℤ c.term_of.result) = simp to_z-of_z at c.product_of-moved.ensures in
    let e3 : c.sum_of.result ≡ wrap (c.product_of-moved.result +ℤ c.term_of-2.result) = simp to_z-of_z at c.sum_of.ensures in
    let h = affine_parts c.product_of.result c.product_of-moved.result c.sum_of.result c.factor_of.result c.factor_of-factor.result c.term_of.result c.term_of-2.result _ _ _ _ e1 e2 e3
    c.factor_of.ensures c.factor_of-factor.ensures c.term_of.ensures c.term_of-2.ensures in
    simp to_z-of_z (line_same _ _ _ _ h.0 h.1)
