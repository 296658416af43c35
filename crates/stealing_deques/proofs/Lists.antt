-- A list from some place on, and with one more at its end.
use Rattle.std.proofs.Common.{◌≡◌, ℕ, zero, suc, List, [], ◌∷◌, ◌++◌, drop, length, Some, ap, sym, subst, arith, length-append}
use Rattle.std.specs.Prelude.{slice_get}
use Rattle.stealing_deques.specs.Steps.{AreNumbered}

-- what stands at the place where the rest begins, and the rest behind it
pub front_at : {T : Type 0} (ds : List T) (n : ℕ) (x : T) (xs : List T) → drop n ds ≡ x ∷ xs → (slice_get ds n ≡ Some x) × (drop (suc n) ds ≡ xs)
front_at [] zero x xs e = absurd cc
front_at [] (suc n) x xs e = absurd cc
front_at (d ∷ ds) zero x xs e = let q : d ≡ x = cc in (ap (λ y. Some y) q, cc)
front_at (d ∷ ds) (suc n) x xs e = front_at ds n x xs e

-- one more behind those that have the numbers from 0 on
numbered_behind : {T : Type 0} (of : ℕ → T) (xs : List T) (x : T) → AreNumbered of xs → x ≡ of (length xs) → AreNumbered of (xs ++ x ∷ [])
numbered_behind of [] x h e zero d few = e
numbered_behind of [] x h e (suc k) d few = absurd (omega (arith, few))
numbered_behind of (y ∷ ys) x h e zero d few = h zero d (omega arith)
numbered_behind of (y ∷ ys) x h e (suc k) d few =
    numbered_behind (λ n. of (suc n)) ys x (λ j c less. h (suc j) c (omega (arith, less))) e k d (omega (arith, few))

pub numbered_snoc : {T : Type 0} (of : ℕ → T) (xs ys : List T) (x : T) → ys ≡ xs ++ x ∷ [] → AreNumbered of xs → x ≡ of (length xs) → AreNumbered of ys
numbered_snoc of xs ys x e h p = subst (λ l. AreNumbered of l) (sym e) (numbered_behind of xs x h p)

-- the rest behind one more
pub rest_behind : {S T : Type 0} (ds : List S) (x : S) (rest : List S) (xs ys : List T) (y : T) → ys ≡ xs ++ y ∷ [] → drop (length xs) ds ≡ x ∷ rest → drop (length ys) ds ≡ rest
rest_behind ds x rest xs ys y e h =
    let longer : length ys ≡ suc (length xs) = omega (arith, ap (λ l. length l) e, length-append xs (y ∷ [])) in
    subst (λ n. drop n ds ≡ rest) (sym longer) (front_at ds (length xs) x rest h).1
