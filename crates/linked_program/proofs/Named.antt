-- Numbers of names.
use Rattle.std.proofs.Common.{◌≡◌, ℕ, Bool, true, false, cond, List, [], ◌∷◌, Option, Some, None, refl, sym, ◌∙◌, inl, inr, ◌⊎◌}
use Rattle.std.specs.Prelude.{IfSome}
use Rattle.std.specs.Str.{bytes_eq}
use Rattle.std.proofs.lemmas.Slice.Eq.{bytes_eq-Decides}
use Rattle.meaning.specs.Tree.{Name}
use Rattle.meaning.specs.Edits.{revision_of}
use Rattle.linked_program.specs.Checked.{number_in}

on_bool : (b : Bool) → (b ≡ true) ⊎ (b ≡ false)
on_bool true = inl refl
on_bool false = inr refl

-- in either order
pub bytes_turned : (x y : Name) → bytes_eq x y ≡ bytes_eq y x
bytes_turned x y =
    elim (on_bool (bytes_eq x y)) [
      | inl t ↦ t ∙ sym ((bytes_eq-Decides y x).1 (sym ((bytes_eq-Decides x y).0 t)))
      | inr n ↦ elim (on_bool (bytes_eq y x)) [
        | inl t ↦ let b : bytes_eq x y ≡ true = (bytes_eq-Decides x y).1 (sym ((bytes_eq-Decides y x).0 t)) in absurd (cc)
        | inr m ↦ n ∙ sym m
      ]
    ]

-- the definitions' number is the one that is found
pub revision_found : (ns : List (Name × ℕ)) (f : Name) (n : ℕ) → number_in ns f ≡ Some n → n ≡ revision_of ns f
revision_found [] f n e = absurd cc
revision_found ((g, k) ∷ ns) f n e =
    rw (bytes_turned g f) (elim (bytes_eq f g) as (λ b. cond b (Some k) (number_in ns f) ≡ Some n → n ≡ cond b k (revision_of ns f)) [
      | true ↦ λ h. (cc)
      | false ↦ λ h. revision_found ns f n h
    ] e)

pub revision_if : (ns : List (Name × ℕ)) (f : Name) (o : Option ℕ) → o ≡ number_in ns f → IfSome o (λ n. n ≡ revision_of ns f)
revision_if ns f None e = tt
revision_if ns f (Some n) e = revision_found ns f n (sym e)
