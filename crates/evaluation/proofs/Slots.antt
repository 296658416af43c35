-- Slots and the names' values that they mean.
use Rattle.std.proofs.Common.{◌≡◌, ℕ, zero, suc, ◌-◌, ℤ, List, [], ◌∷◌, ◌++◌, map, replicate, take, length, refl, sym, ◌∙◌, ap, arith}
use Rattle.std.specs.Prelude.{slice_get, slice_set}
use Rattle.meaning.specs.Tree.{Name}
use Rattle.meaning.specs.SmallStep.{slot, set_into}
use Rattle.meaning.specs.SmallStep as definitions
use Rattle.meaning.specs.Statements.{fresh}
use Rattle.meaning.specs.Values.{or_zero}
use Rattle.evaluation.specs.declared.slot.Slot.{Slot}
use Rattle.evaluation.specs.declared.slot.Slot.TheVariants.{Unset, Waits, Has}
use Rattle.evaluation.specs.Slots.{number_in, meant, env_of}
use Rattle.evaluation.specs.Numbers.{PutIs, FreshIs}

pub number_is : (slots : List Slot) (x : ℕ) → number_in (slice_get slots x) ≡ or_zero (slice_get (env_of slots) x)
number_is [] zero = refl
number_is [] (suc x) = refl
number_is (Unset ∷ ss) zero = refl
number_is (Waits j ∷ ss) zero = refl
number_is (Has v ∷ ss) zero = refl
number_is (s ∷ ss) (suc x) = number_is ss x

-- a slot that is written
pub set_meant : (slots : List Slot) (x : ℕ) (s : Slot) → map meant (slice_set slots x s) ≡ slice_set (map meant slots) x (meant s)
set_meant [] x s = refl
set_meant (y ∷ ss) zero s = refl
set_meant (y ∷ ss) (suc x) s = ap (λ l. meant y ∷ l) (set_meant ss x s)

pub put_is : (slots : List Slot) (x : ℕ) (v : ℤ) → PutIs slots x v
put_is [] x v = refl
put_is (y ∷ ss) zero v = refl
put_is (y ∷ ss) (suc x) v = ap (λ l. definitions.seen (meant y) ∷ l) (put_is ss x v)

fresh_none : (names : List Name) → map slot (fresh names []) ≡ replicate (length names) definitions.unset
fresh_none [] = refl
fresh_none (x ∷ names) = ap (λ l. definitions.unset ∷ l) (fresh_none names)

unset_meant : (n : ℕ) → map meant (replicate n Unset) ≡ replicate n definitions.unset
unset_meant zero = refl
unset_meant (suc n) = ap (λ l. definitions.unset ∷ l) (unset_meant n)

pub past_end : (k : ℕ) → replicate {A = Slot} (0 - k) Unset ≡ []
past_end k = ap (λ n. replicate n Unset) (let z : 0 - k ≡ 0 = omega arith in z)

pub both_less : (n : ℕ) (ss : List Slot) → replicate (suc n - suc (length ss)) Unset ≡ replicate {A = Slot} (n - length ss) Unset
both_less n ss = ap (λ m. replicate m Unset) (let z : suc n - suc (length ss) ≡ n - length ss = omega arith in z)

pub none_less : (n : ℕ) → n - 0 ≡ n
none_less n = omega arith

-- the slots of a new instance are its names' values
pub fresh_is : (names : List Name) (vs : List ℤ) → FreshIs names vs
fresh_is [] [] = refl
fresh_is [] (v ∷ vs) = ap (map meant) (past_end (suc (length (map Has vs))))
fresh_is (x ∷ names) [] =
    ap (λ n. map meant (replicate n Unset)) (none_less (suc (length names))) ∙ unset_meant (suc (length names)) ∙ sym (fresh_none (x ∷ names))
fresh_is (x ∷ names) (v ∷ vs) =
    ap (λ l. definitions.has v ∷ map meant (take (length names) (map Has vs) ++ l)) (both_less (length names) (map Has vs))
    ∙ ap (λ l. definitions.has v ∷ l) (fresh_is names vs)
