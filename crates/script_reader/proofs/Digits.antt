-- Digits from the left.
use Rattle.std.proofs.Common.{◌≡◌, ℕ, ◌+◌, ◌*◌, ◌<◌, ◌≤◌, Bool, true, false, ◌&&◌, nat_le, List, [], ◌∷◌, length, refl, arith, inl, inr, ◌⊎◌, None}
use Rattle.std.proofs.lemmas.Bool.{leb-true, leb-false}
use Rattle.std.specs.Char.{digit_value}
use Rattle.std.specs.Str.Parse.{digits_value_after}
use Rattle.meaning.specs.Every.{every}
use Rattle.meaning.specs.Script.{is_digit, digits_up_to}
use Rattle.script_reader.specs.Digits.{with_digit, more_digits}

-- a value only grows
grows : (n : ℕ) (ds : List ℕ) → n ≤ digits_value_after 10 n ds
grows n [] = omega arith
grows n (d ∷ ds) = omega (arith, grows (n * 10 + digit_value d) ds)

on_bool : (b : Bool) → (b ≡ true) ⊎ (b ≡ false)
on_bool true = inl refl
on_bool false = inr refl

and_false : (b : Bool) → (b && false) ≡ false
and_false true = refl
and_false false = refl

-- a value that has passed the limit stays above it
too_great : (limit n : ℕ) (ds : List ℕ) → nat_le n limit ≡ false → nat_le (digits_value_after 10 n ds) limit ≡ false
too_great limit n ds h =
    let k = grows n ds in
    elim (on_bool (nat_le (digits_value_after 10 n ds) limit)) [ inl within ↦ absurd (omega (arith, leb-false _ _ h, leb-true _ _ within, k)) | inr above ↦ above ]

module _ (limit value b : ℕ) (bs : List ℕ) where
  pub no_more : with_digit limit value b ≡ None → more_digits limit value (b ∷ bs) ≡ None
  no_more h = elim (on_bool (is_digit b)) [
    | inr other ↦ rw other refl
    | inl digit ↦
        elim (on_bool (nat_le (value * 10 + digit_value b) limit)) [
          | inl within ↦ absurd (let e = rw (digit, within) at h in cc)
          | inr above ↦ rw (digit, too_great limit (value * 10 + digit_value b) bs above, and_false (every is_digit bs)) refl
        ]
  ]

pub filled : (limit : ℕ) (digits : List ℕ) (i : ℕ) → i < length digits → digits_up_to limit digits ≡ more_digits limit 0 digits
filled limit [] i h = absurd (omega (arith, h))
filled limit (b ∷ bs) i h = refl
