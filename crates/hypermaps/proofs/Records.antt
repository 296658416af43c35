-- A record's values, combined one after another.
use Rattle.std.specs.Prelude.{◌≡◌, ℕ, zero, suc, ◌<◌, ◌≤◌, List, [], ◌∷◌, length, refl}
use Rattle.std.proofs.Common.{ap, arith, get_or, set}
use Rattle.monoid_laws.specs.Worth.{Worth}
use Rattle.monoid_laws.specs.Kinds.{operate, operate_all, AreWorths}
use Rattle.monoid_laws.specs.declared.Kind.{Kind}
use Rattle.hypermaps.specs.Layer.{operate_first}

same_first : (c d : Kind) (x u y v : Worth) (xs : List Worth) → c ≡ d → x ≡ u → y ≡ v → operate c x y ∷ xs ≡ operate d u v ∷ xs
same_first c d x u y v xs p q r = cc

pub first_step : (n m : ℕ) (cs : List Kind) (xs ys : List Worth) (c : Kind) (x y : Worth) → AreWorths cs xs → AreWorths cs ys → n < length cs → m ≡ suc n
    → c ≡ get_or cs n c → x ≡ get_or (operate_first n cs xs ys) n x → y ≡ get_or ys n y
    → set (operate_first n cs xs ys) n (operate c x y) ≡ operate_first m cs xs ys
first_step n m [] xs ys c x y a b h e p q r = absurd (omega arith)
first_step n m (d ∷ cs) [] ys c x y a b h e p q r = absurd a
first_step n m (d ∷ cs) (u ∷ xs) [] c x y a b h e p q r = absurd b
first_step zero m (d ∷ cs) (u ∷ xs) (v ∷ ys) c x y a b h e p q r = rw e (same_first c d x u y v xs p q r)
first_step (suc n) m (d ∷ cs) (u ∷ xs) (v ∷ ys) c x y a b h e p q r =
    rw e (ap (λ l. operate d u v ∷ l) (first_step n (suc n) cs xs ys c x y (a.1) (b.1) (omega arith) refl p q r))

pub first_all : (n : ℕ) (cs : List Kind) (xs ys : List Worth) → AreWorths cs xs → AreWorths cs ys → length cs ≤ n → operate_first n cs xs ys ≡ operate_all cs xs ys
first_all zero [] [] ys a b h = refl
first_all (suc n) [] [] ys a b h = refl
first_all n [] (x ∷ xs) ys a b h = absurd a
first_all n (c ∷ cs) [] ys a b h = absurd a
first_all n (c ∷ cs) (x ∷ xs) [] a b h = absurd b
first_all zero (c ∷ cs) (x ∷ xs) (y ∷ ys) a b h = absurd (omega arith)
first_all (suc n) (c ∷ cs) (x ∷ xs) (y ∷ ys) a b h = ap (λ l. operate c x y ∷ l) (first_all n cs xs ys (a.1) (b.1) (omega arith))

pub AreWorths-length : (cs : List Kind) (xs : List Worth) → AreWorths cs xs → length xs ≡ length cs
AreWorths-length [] [] a = refl
AreWorths-length [] (x ∷ xs) a = absurd a
AreWorths-length (c ∷ cs) [] a = absurd a
AreWorths-length (c ∷ cs) (x ∷ xs) a = ap suc (AreWorths-length cs xs (a.1))
