-- Kinds that compare as equal are equal.
use Rattle.std.proofs.Common.{◌≡◌, Bool, true, false, ◌&&◌, List, [], ◌∷◌, refl, ap, sym, subst, ◌∙◌}
use Rattle.std.specs.Cmp.Lexicographic.{pointwise}
use Rattle.std.proofs.lemmas.Bool.{eqb-true}
use Rattle.std.proofs.lemmas.Bool.Decides.{Decides-eqb}
use Rattle.std.proofs.lemmas.Slice.Eq.{slice_eq-Decides}
use Rattle.monoid_laws.specs.declared.Table.{Table}
use Rattle.monoid_laws.specs.declared.Kind.{Kind}
use Rattle.monoid_laws.specs.declared.Kind.TheVariants as k
use Rattle.monoid_laws.proofs.SameTables.{same_parts}
use Rattle.monoid_laws.specs.contracts.KindPartialEq.TheImpl as kinds
use Rattle.monoid_laws.specs.contracts.TablePartialEq.TheImpl as tables

left_true : (b c : Bool) → (b && c) ≡ true → b ≡ true
left_true true c e = refl
left_true false c e = e

abbrev is_false : Bool → Type 0
is_false true = ⊥
is_false false = Unit {0}

different : false ≡ true → ⊥
different h = subst is_false h tt

right_true : (b c : Bool) → (b && c) ≡ true → c ≡ true
right_true true c e = e
right_true false c e = absurd (different e)

same_table : (a b : Table) → (tables.ghosts).eq a b ≡ true → a ≡ b
same_table a b h =
    let others = right_true _ _ h in
    same_parts a b (eqb-true a.size b.size (left_true _ _ h)) (eqb-true a.unit b.unit (left_true _ _ others))
    ((slice_eq-Decides Decides-eqb a.cells b.cells true (sym (right_true _ _ others))).0 refl)

-- each of the 182 pairs that differ is a case of the last line, so it takes a term: a search for each takes a minute and more
pub same_kind : (a b : Kind) → (kinds.ghosts).eq a b ≡ true → a ≡ b
same_kind k.Add k.Add h = refl
same_kind k.Mul k.Mul h = refl
same_kind k.Min k.Min h = refl
same_kind k.Max k.Max h = refl
same_kind k.And k.And h = refl
same_kind k.Or k.Or h = refl
same_kind k.Xor k.Xor h = refl
same_kind k.List k.List h = refl
same_kind (k.First n) (k.First m) h = ap k.First (eqb-true n m h)
same_kind (k.Last n) (k.Last m) h = ap k.Last (eqb-true n m h)
same_kind k.Argmax k.Argmax h = refl
same_kind k.Affine k.Affine h = refl
same_kind k.Hist k.Hist h = refl
same_kind (k.Table t) (k.Table u) h = ap k.Table (same_table t u h)
same_kind _ _ h = absurd (different h)

pub same_kinds : (as_is bs : List Kind) → pointwise (kinds.ghosts).eq as_is bs ≡ true → as_is ≡ bs
same_kinds [] [] h = refl
same_kinds [] (b ∷ bs) h = absurd (different h)
same_kinds (a ∷ xs) [] h = absurd (different h)
same_kinds (a ∷ xs) (b ∷ bs) h =
    ap (λ (k : Kind). k ∷ xs) (same_kind a b (left_true _ _ h)) ∙ ap (λ (ks : List Kind). b ∷ ks) (same_kinds xs bs (right_true _ _ h))
