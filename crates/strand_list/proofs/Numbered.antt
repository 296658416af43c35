-- Places that are found by their numbers.
use Rattle.std.proofs.Common.{◌≡◌, ℕ, suc, ◌/◌, ◌<◌, Bool, true, false, not, ◌&&◌, List, [], ◌∷◌, length, map, refl, sym, ap, ◌∙◌, subst, arith, bytes_eq}
use Rattle.std.specs.Prelude.{slice_index}
use Rattle.std.proofs.lemmas.List.{length-map}
use Rattle.std.proofs.lemmas.Slice.Eq.{bytes_eq-Decides}
use Rattle.place_chains.specs.Chains.{IsEndOf}
use Rattle.meaning.specs.Outcome.{Place}
use Rattle.strand_list.specs.Numbers.{all_mixed, number_of}
use Rattle.strand_lines.specs.Lines.{is_unused}

pub number_is : (place : Place) → all_mixed 1 place / 4294967296 ≡ number_of place
unfolding number_of
number_is place = refl

-- a place whose number none of these has is none of them
other_number : (n : Place) (us : List Place) → ((i : ℕ) → i < length us → slice_index (map number_of us) i ≡ number_of n → ⊥) → is_unused n us ≡ true
other_number n [] h = refl
other_number n (u ∷ us) h = by (bytes_eq u n) refl (other_number n us (λ i w f. h (suc i) (omega (arith, w)) f))
  where
    by : (b : Bool) → bytes_eq u n ≡ b → is_unused n us ≡ true → (not b && is_unused n us) ≡ true
    by true e r = absurd (h 0 (omega arith) (ap number_of ((bytes_eq-Decides u n).0 e)))
    by false e r = r

-- so where nothing is found under its number
pub none_under : (n : Place) (us : List Place) (numbers : List ℕ) (number end : ℕ) → numbers ≡ map number_of us → number ≡ number_of n → IsEndOf numbers (length numbers) number end → end ≡ 0 → is_unused n us ≡ true
none_under n us numbers number end e f h z =
    other_number n us (λ i w g.
    let within : i < length numbers = subst (λ ns. i < length ns) (sym e) (subst (λ m. i < m) (sym (length-map us number_of)) w) in
    h.none i (omega (arith, z)) within (ap (λ ns. slice_index ns i) e ∙ g ∙ sym f))
