-- The laws on numbers of 64 bits.
use Rattle.std.specs.Prelude.{◌≡◌, ℕ, ◌-◌, ◌^◌, ◌<◌, ℤ, pos, ◌+ℤ◌, ◌*ℤ◌, bit_and, bit_or, refl}
use Rattle.std.specs.Int.{int_wrap, int_max, int_min, w64, cast_signed, cast_unsigned}
use Rattle.std.proofs.Common.{sym, ◌∙◌, ap, subst, arith}
use Rattle.std.proofs.Math.IntN.{+ℤ_assoc, ℤ_ind, +ℤ_one, -ℤ_one, suc_ℤ, pred_ℤ, neg_ℤ, suc_ℤ-*ℤ, pred_ℤ-*ℤ, zero-*ℤ, *ℤ_comm, *ℤ-zero, ◌-ℤ◌}
use Rattle.std.proofs.Math.Facts.{sfits_to_z, Fits-lt-pow, Fits-bits}
use Rattle.std.proofs.Math.Nat.{mod-eq_of_lt}
use mir.ValLaws.{of_z_fits}
use Rattle.std.proofs.lemmas.Int.{ints, clamps, int_wrap_fits, int_wrap-add_left, int_wrap-add_right, int_wrap-mul_left, int_wrap-add_same, int_wrap-mul_right, of_z-to_z, to_z-of_z}
use Rattle.std.proofs.lemmas.Nat.{and_comm, and_mask}
use Rattle.std.proofs.lemmas.Nat.Bits.{bit_at_or, same_from_bits}
use Rattle.monoid_laws.specs.Kinds.{wrap, Fits}

pub add_assoc : (a b c : ℤ) → wrap (wrap (a +ℤ b) +ℤ c) ≡ wrap (a +ℤ wrap (b +ℤ c))
add_assoc a b c = int_wrap-add_left w64 (a +ℤ b) c ∙ ap (int_wrap w64) (+ℤ_assoc a b c) ∙ sym (int_wrap-add_right w64 a (b +ℤ c))

pub add_zero : (a : ℤ) → Fits a → wrap (a +ℤ pos 0) ≡ a
add_zero a f = let e : a +ℤ pos 0 ≡ a = omega (arith, ints) in rw e (int_wrap_fits w64 a f)

pub zero_add : (a : ℤ) → Fits a → wrap (pos 0 +ℤ a) ≡ a
zero_add a f = let e : pos 0 +ℤ a ≡ a = omega (arith, ints) in rw e (int_wrap_fits w64 a f)

pub min_assoc : (a b c : ℤ) → int_min (int_min a b) c ≡ int_min a (int_min b c)
min_assoc a b c = omega (arith, ints, clamps)

pub max_assoc : (a b c : ℤ) → int_max (int_max a b) c ≡ int_max a (int_max b c)
max_assoc a b c = omega (arith, ints, clamps)

-- an induction on integers, one step up and one step down
step_ind : (P : ℤ → Type 0) → P (pos 0) → ((a : ℤ) → P a → P (suc_ℤ a)) → ((a : ℤ) → P a → P (pred_ℤ a)) → (k : ℤ) → P k
step_ind P z up down k =
    ℤ_ind P z (λ n h. subst P (sym (+ℤ_one (pos n))) (up (pos n) h)) (λ n h. subst P (sym (-ℤ_one (neg_ℤ (pos n)))) (down (neg_ℤ (pos n)) h)) k

mul-add_up : (a b c : ℤ) → (a +ℤ b) *ℤ c ≡ (a *ℤ c) +ℤ (b *ℤ c) → (suc_ℤ a +ℤ b) *ℤ c ≡ (suc_ℤ a *ℤ c) +ℤ (b *ℤ c)
mul-add_up a b c h =
    let s : suc_ℤ a +ℤ b ≡ suc_ℤ (a +ℤ b) = omega (arith, ints, +ℤ_one a, +ℤ_one (a +ℤ b)) in
    rw (s, suc_ℤ-*ℤ (a +ℤ b) c, suc_ℤ-*ℤ a c, h) (omega (arith, ints))

mul-add_down : (a b c : ℤ) → (a +ℤ b) *ℤ c ≡ (a *ℤ c) +ℤ (b *ℤ c) → (pred_ℤ a +ℤ b) *ℤ c ≡ (pred_ℤ a *ℤ c) +ℤ (b *ℤ c)
mul-add_down a b c h =
    let s : pred_ℤ a +ℤ b ≡ pred_ℤ (a +ℤ b) = omega (arith, ints, -ℤ_one a, -ℤ_one (a +ℤ b)) in
    rw (s, pred_ℤ-*ℤ (a +ℤ b) c, pred_ℤ-*ℤ a c, h) (omega (arith, ints))

mul-add_none : (b c : ℤ) → (pos 0 +ℤ b) *ℤ c ≡ (pos 0 *ℤ c) +ℤ (b *ℤ c)
mul-add_none b c =
    let e : pos 0 +ℤ b ≡ b = omega (arith, ints) in
    rw (e, zero-*ℤ c) (omega (arith, ints))

pub mul-add : (a b c : ℤ) → (a +ℤ b) *ℤ c ≡ (a *ℤ c) +ℤ (b *ℤ c)
mul-add a b c = step_ind (λ a. (a +ℤ b) *ℤ c ≡ (a *ℤ c) +ℤ (b *ℤ c)) (mul-add_none b c) (λ x h. mul-add_up x b c h) (λ x h. mul-add_down x b c h) a

times_assoc_up : (a b c : ℤ) → (a *ℤ b) *ℤ c ≡ a *ℤ (b *ℤ c) → (suc_ℤ a *ℤ b) *ℤ c ≡ suc_ℤ a *ℤ (b *ℤ c)
times_assoc_up a b c h = rw (suc_ℤ-*ℤ a b, mul-add (a *ℤ b) b c, suc_ℤ-*ℤ a (b *ℤ c), h) refl

times_assoc_down : (a b c : ℤ) → (a *ℤ b) *ℤ c ≡ a *ℤ (b *ℤ c) → (pred_ℤ a *ℤ b) *ℤ c ≡ pred_ℤ a *ℤ (b *ℤ c)
times_assoc_down a b c h =
    let e : (a *ℤ b) ≡ ((pred_ℤ a *ℤ b) +ℤ b) = (let p : pred_ℤ a *ℤ b ≡ (a *ℤ b) -ℤ b = pred_ℤ-*ℤ a b in omega (arith, ints)) in
    let f : (a *ℤ b) *ℤ c ≡ ((pred_ℤ a *ℤ b) *ℤ c) +ℤ (b *ℤ c) = ap (λ x. x *ℤ c) e ∙ mul-add (pred_ℤ a *ℤ b) b c in
    let g : pred_ℤ a *ℤ (b *ℤ c) ≡ (a *ℤ (b *ℤ c)) -ℤ (b *ℤ c) = pred_ℤ-*ℤ a (b *ℤ c) in
    omega (arith, ints)

times_assoc_none : (b c : ℤ) → (pos 0 *ℤ b) *ℤ c ≡ pos 0 *ℤ (b *ℤ c)
times_assoc_none b c = rw (zero-*ℤ b, zero-*ℤ c, zero-*ℤ (b *ℤ c)) refl

pub times_assoc : (a b c : ℤ) → (a *ℤ b) *ℤ c ≡ a *ℤ (b *ℤ c)
times_assoc a b c = step_ind (λ a. (a *ℤ b) *ℤ c ≡ a *ℤ (b *ℤ c)) (times_assoc_none b c) (λ x h. times_assoc_up x b c h) (λ x h. times_assoc_down x b c h) a

pub add-mul : (a b c : ℤ) → a *ℤ (b +ℤ c) ≡ (a *ℤ b) +ℤ (a *ℤ c)
add-mul a b c = rw (*ℤ_comm a (b +ℤ c), mul-add b c a, *ℤ_comm a b, *ℤ_comm a c) refl

pub mul_assoc : (a b c : ℤ) → wrap (wrap (a *ℤ b) *ℤ c) ≡ wrap (a *ℤ wrap (b *ℤ c))
mul_assoc a b c = int_wrap-mul_left w64 (a *ℤ b) c ∙ ap (int_wrap w64) (times_assoc a b c) ∙ sym (int_wrap-mul_right w64 a (b *ℤ c))

pub one_times : (a : ℤ) → pos 1 *ℤ a ≡ a
one_times a =
    let e : pos 1 *ℤ a ≡ (pos 0 *ℤ a) +ℤ a = suc_ℤ-*ℤ (pos 0) a in
    let z : pos 0 *ℤ a ≡ pos 0 = zero-*ℤ a in
    omega (arith, ints)

pub one_mul : (a : ℤ) → Fits a → wrap (pos 1 *ℤ a) ≡ a
one_mul a f = ap (int_wrap w64) (one_times a) ∙ int_wrap_fits w64 a f

pub mul_one : (a : ℤ) → Fits a → wrap (a *ℤ pos 1) ≡ a
mul_one a f = ap (int_wrap w64) (*ℤ_comm a (pos 1) ∙ one_times a) ∙ int_wrap_fits w64 a f

-- the second part of a composed line: y's factor times x's term, and y's term
pub affine_assoc : (b1 a2 b2 a3 b3 : ℤ)
    → wrap ((a3 *ℤ wrap ((a2 *ℤ b1) +ℤ b2)) +ℤ b3) ≡ wrap ((wrap (a2 *ℤ a3) *ℤ b1) +ℤ wrap ((a3 *ℤ b2) +ℤ b3))
affine_assoc b1 a2 b2 a3 b3 =
    let l : wrap ((a3 *ℤ wrap ((a2 *ℤ b1) +ℤ b2)) +ℤ b3) ≡ wrap ((a3 *ℤ ((a2 *ℤ b1) +ℤ b2)) +ℤ b3) = int_wrap-add_same w64 _ _ b3 (int_wrap-mul_right w64 a3 ((a2 *ℤ b1) +ℤ b2)) in
    let r : wrap ((wrap (a2 *ℤ a3) *ℤ b1) +ℤ wrap ((a3 *ℤ b2) +ℤ b3)) ≡ wrap (((a2 *ℤ a3) *ℤ b1) +ℤ ((a3 *ℤ b2) +ℤ b3)) =
    (int_wrap-add_right w64 (wrap (a2 *ℤ a3) *ℤ b1) ((a3 *ℤ b2) +ℤ b3) ∙ int_wrap-add_same w64 _ _ ((a3 *ℤ b2) +ℤ b3) (int_wrap-mul_left w64 (a2 *ℤ a3) b1)) in
    let m : (a3 *ℤ ((a2 *ℤ b1) +ℤ b2)) +ℤ b3 ≡ ((a2 *ℤ a3) *ℤ b1) +ℤ ((a3 *ℤ b2) +ℤ b3) =
    (let p : a3 *ℤ ((a2 *ℤ b1) +ℤ b2) ≡ (a3 *ℤ (a2 *ℤ b1)) +ℤ (a3 *ℤ b2) = add-mul a3 (a2 *ℤ b1) b2 in
    let q : a3 *ℤ (a2 *ℤ b1) ≡ (a2 *ℤ a3) *ℤ b1 = sym (times_assoc a3 a2 b1) ∙ ap (λ x. x *ℤ b1) (*ℤ_comm a3 a2) in
    omega (arith, ints)) in
    l ∙ ap (int_wrap w64) m ∙ sym r

pub times_zero : (a : ℤ) → a *ℤ pos 0 ≡ pos 0
times_zero a = *ℤ-zero a

-- ---- bits
pub bits_below : (z : ℤ) → Fits z → cast_unsigned w64 z < 2 ^ 64
bits_below z f = Fits-lt-pow (of_z_fits w64 z f)

-- what a bitwise operation that keeps to 64 bits makes of two numbers that fit
module _ (op : ℕ → ℕ → ℕ) (keeps : (a b : ℕ) → a < 2 ^ 64 → b < 2 ^ 64 → op a b < 2 ^ 64) where
  abbrev pub bitwise : ℤ → ℤ → ℤ
  bitwise a b = cast_signed w64 (op (cast_unsigned w64 a) (cast_unsigned w64 b))

  pub bitwise_fits : (a b : ℤ) → Fits a → Fits b → Fits (bitwise a b)
  bitwise_fits a b f g = sfits_to_z {w = w64} (Fits-bits 64 tt (keeps _ _ (bits_below a f) (bits_below b g)))

  pub bitwise_assoc : ((a b c : ℕ) → op (op a b) c ≡ op a (op b c)) → (a b c : ℤ) → Fits a → Fits b → Fits c → bitwise (bitwise a b) c ≡ bitwise a (bitwise b c)
  bitwise_assoc assoc a b c f g h =
      ap (cast_signed w64)
      (ap (λ x. op x (cast_unsigned w64 c)) (of_z-to_z w64 _ (keeps _ _ (bits_below a f) (bits_below b g)))
      ∙ assoc (cast_unsigned w64 a) (cast_unsigned w64 b) (cast_unsigned w64 c)
      ∙ ap (λ x. op (cast_unsigned w64 a) x) (sym (of_z-to_z w64 _ (keeps _ _ (bits_below b g) (bits_below c h)))))

  pub bitwise_left : (e a : ℤ) → Fits a → op (cast_unsigned w64 e) (cast_unsigned w64 a) ≡ cast_unsigned w64 a → bitwise e a ≡ a
  bitwise_left e a f h = ap (cast_signed w64) h ∙ to_z-of_z w64 a f

  pub bitwise_right : (e a : ℤ) → Fits a → op (cast_unsigned w64 a) (cast_unsigned w64 e) ≡ cast_unsigned w64 a → bitwise a e ≡ a
  bitwise_right e a f h = ap (cast_signed w64) h ∙ to_z-of_z w64 a f

pub or_assoc : (a b c : ℕ) → bit_or (bit_or a b) c ≡ bit_or a (bit_or b c)
or_assoc a b c = same_from_bits _ _ (λ i. rw (bit_at_or, bit_at_or, bit_at_or, bit_at_or) (omega arith))

pub and_ones_right : (a : ℕ) → a < 2 ^ 64 → bit_and a (2 ^ 64 - 1) ≡ a
and_ones_right a h = and_mask a 64 ∙ mod-eq_of_lt h

pub and_ones_left : (a : ℕ) → a < 2 ^ 64 → bit_and (2 ^ 64 - 1) a ≡ a
and_ones_left a h = and_comm (2 ^ 64 - 1) a ∙ and_ones_right a h

-- the parts of two maps, one after the other
pub affine_parts : (p q s f g t u f' g' t' u' : ℤ) → p ≡ wrap (f *ℤ g) → q ≡ wrap (g *ℤ t) → s ≡ wrap (q +ℤ u) → f ≡ f' → g ≡ g' → t ≡ t' → u ≡ u'
    → (p ≡ wrap (f' *ℤ g')) × (s ≡ wrap ((g' *ℤ t') +ℤ u'))
affine_parts p q s f g t u f' g' t' u' e1 e2 e3 e4 e5 e6 e7 = (
  e1 ∙ ap (λ x. wrap (x *ℤ g)) e4 ∙ ap (λ x. wrap (f' *ℤ x)) e5,
  e3 ∙ ap (λ x. wrap (x +ℤ u)) e2 ∙ int_wrap-add_left w64 (g *ℤ t) u ∙ ap (λ x. wrap ((x *ℤ t) +ℤ u)) e5 ∙ ap (λ x. wrap ((g' *ℤ x) +ℤ u)) e6 ∙ ap (λ x. wrap ((g' *ℤ t') +ℤ x)) e7,
)
