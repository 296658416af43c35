-- What the operators give fits 64 bits.
use Rattle.std.proofs.Common.{ℕ, zero, suc, ◌+◌, ◌-◌, ◌<◌, ℤ, pos, negsuc, Bool, true, false, cond, ◌≡◌, refl, arith}
use Rattle.std.specs.Prelude.{◌+ℤ◌, ◌-ℤ◌, ◌^◌, ◌*◌, ◌/◌, int_lt, int_div, int_rem}
use Rattle.std.specs.Int.{w64, cast_signed, cast_unsigned, int_wrap, int_wrapping_add, int_wrapping_sub, int_wrapping_mul, int_wrapping_div, int_wrapping_neg}
use Rattle.std.proofs.Math.Facts.{sfits_to_z, sfits_lit, Fits-bits}
use Rattle.std.proofs.Math.Nat.{mod-lt, div-le_self}
use Rattle.std.proofs.Math.IntN.{neg_ℤ}
use lib.Signed.{mag_rem}
use borrow.Author.Differences.{fits_in}
use Rattle.std.proofs.lemmas.Int.{ints, SFits-int_wrap}
use Rattle.monoid_laws.specs.Kinds.{Fits}
use Rattle.meaning.specs.Statements.{natural, span}

pub zero_fits : Fits (pos 0)
zero_fits = sfits_lit tt

pub one_fits : Fits (pos 1)
one_fits = sfits_lit tt

bits_fit : (n : ℕ) → n < 2 ^ 64 → Fits (cast_signed w64 n)
bits_fit n h = sfits_to_z {w = w64} (Fits-bits 64 tt h)

pub wrapped_fits : (x : ℤ) → Fits (int_wrap w64 x)
wrapped_fits x = SFits-int_wrap w64 x

pub added_fits : (x y : ℤ) → Fits (int_wrapping_add w64 x y)
added_fits x y = bits_fit _ (mod-lt (cast_unsigned w64 x + cast_unsigned w64 y) (omega arith))

pub less_fits : (x y : ℤ) → Fits (int_wrapping_sub w64 x y)
less_fits x y = bits_fit _ (mod-lt (cast_unsigned w64 x + (2 ^ 64 - cast_unsigned w64 y)) (omega arith))

pub times_fits : (x y : ℤ) → Fits (int_wrapping_mul w64 x y)
times_fits x y = bits_fit _ (mod-lt (cast_unsigned w64 x * cast_unsigned w64 y) (omega arith))

pub opposite_fits : (x : ℤ) → Fits (int_wrapping_neg w64 x)
opposite_fits x = bits_fit _ (mod-lt (2 ^ 64 - cast_unsigned w64 x) (omega arith))

neg_below : (n : ℕ) → n < 2 ^ 64 → cast_unsigned w64 (neg_ℤ (pos n)) < 2 ^ 64
neg_below zero h = omega arith
neg_below (suc n) h = omega arith

quotient_below : (x y : ℤ) → Fits x → cast_unsigned w64 (int_div x y) < 2 ^ 64
quotient_below (pos a) (pos b) f = let h : a < 2 ^ 63 = f.sfits in omega (arith, div-le_self a b)
quotient_below (pos a) (negsuc b) f = let h : a < 2 ^ 63 = f.sfits in neg_below (a / suc b) (omega (arith, div-le_self a (suc b)))
quotient_below (negsuc a) (pos b) f = let h : a < 2 ^ 63 = f.sfits in neg_below (suc a / b) (omega (arith, div-le_self (suc a) b))
quotient_below (negsuc a) (negsuc b) f = let h : a < 2 ^ 63 = f.sfits in omega (arith, div-le_self (suc a) (suc b))

pub quotient_fits : (x y : ℤ) → Fits x → Fits (int_wrapping_div w64 x y)
quotient_fits x y f = bits_fit _ (quotient_below x y f)

pub remainder_fits : (x y : ℤ) → Fits x → Fits (int_rem x y)
remainder_fits x y f = record { sfits = omega (arith, mag_rem x y, f.sfits) }

pub natural_fits : (n : ℕ) → n < 256 → Fits (pos n)
natural_fits n h = record { sfits = omega arith }

-- numbers from low on, below high
below_fits : (low high z : ℤ) → z ≡ high -ℤ low → (i : ℕ) → i < natural z → Fits low → Fits high → Fits (low +ℤ pos i)
below_fits low high (pos n) e i l f g = let h : i < n = l in omega (arith, ints, fits_in, f, g, e)
below_fits low high (negsuc n) e i l f g = absurd (omega arith)

cond_below : (b : Bool) (m i : ℕ) → i < cond b m 0 → i < m
cond_below true m i h = h
cond_below false m i h = absurd (omega arith)

pub range_fits : (low high : ℤ) (i : ℕ) → i < span low high → Fits low → Fits high → Fits (low +ℤ pos i)
range_fits low high i h f g = below_fits low high (high -ℤ low) refl i (cond_below (int_lt low high) (natural (high -ℤ low)) i h) f g
