-- Names that are the same, by their numbers.
use Rattle.std.proofs.Common.{arith, ◌≡◌, ℕ, nat_eq, Bool, true, false, ◌&&◌, List, [], ◌∷◌, ◌++◌, length, refl, sym, ap, subst, ◌∙◌}
use Rattle.std.specs.Cmp.Lexicographic.{pointwise}
use Rattle.meaning.specs.SmallStep.{same_name}
use Rattle.meaning.specs.Trail.{child_of}

pub pointwise_same : (xs ys : List ℕ) → pointwise nat_eq xs ys ≡ same_name xs ys
pointwise_same [] [] = refl
pointwise_same [] (y ∷ ys) = refl
pointwise_same (x ∷ xs) [] = refl
pointwise_same (x ∷ xs) (y ∷ ys) = ap (λ b. nat_eq x y && b) (pointwise_same xs ys)

and_false : (b : Bool) → (b && false) ≡ false
and_false true = refl
and_false false = refl

and_swap : (a b c : Bool) → (a && (b && c)) ≡ (b && (a && c))
and_swap true b c = refl
and_swap false true c = refl
and_swap false false c = refl

longer_left : (xs : List ℕ) (a : ℕ) → same_name (xs ++ a ∷ []) [] ≡ false
longer_left [] a = refl
longer_left (x ∷ xs) a = refl

longer_right : (ys : List ℕ) (b : ℕ) → same_name [] (ys ++ b ∷ []) ≡ false
longer_right [] b = refl
longer_right (y ∷ ys) b = refl

same_child : (xs ys : List ℕ) (a b : ℕ) → same_name (xs ++ a ∷ []) (ys ++ b ∷ []) ≡ (nat_eq a b && same_name xs ys)
same_child [] [] a b = refl
same_child [] (y ∷ ys) a b = ap (λ c. nat_eq a y && c) (longer_right ys b) ∙ and_false (nat_eq a y) ∙ sym (and_false (nat_eq a b))
same_child (x ∷ xs) [] a b = ap (λ c. nat_eq x b && c) (longer_left xs a) ∙ and_false (nat_eq x b) ∙ sym (and_false (nat_eq a b))
same_child (x ∷ xs) (y ∷ ys) a b = ap (λ c. nat_eq x y && c) (same_child xs ys a b) ∙ and_swap (nat_eq x y) (nat_eq a b) (same_name xs ys)

pub no_child : (name parent : List ℕ) (child : ℕ) → length name ≡ 0 → false ≡ same_name (child_of parent child) name
no_child [] parent child h = sym (longer_left parent child)
no_child (n ∷ name) parent child h = absurd (omega arith)

pub child_is : (name parent front : List ℕ) (child last : ℕ) → name ≡ front ++ last ∷ [] → (nat_eq child last && same_name parent front) ≡ same_name (child_of parent child) name
child_is name parent front child last h = subst (λ n. (nat_eq child last && same_name parent front) ≡ same_name (child_of parent child) n) (sym h) (sym (same_child parent front child last))

pub child_then : (name parent front : List ℕ) (child last : ℕ) (b : Bool) → name ≡ front ++ last ∷ [] → nat_eq child last ≡ true → b ≡ same_name parent front → b ≡ same_name (child_of parent child) name
child_then name parent front child last b h e s = s ∙ sym (ap (λ c. c && same_name parent front) e) ∙ child_is name parent front child last h

pub child_else : (name parent front : List ℕ) (child last : ℕ) → name ≡ front ++ last ∷ [] → nat_eq child last ≡ false → nat_eq child last ≡ same_name (child_of parent child) name
child_else name parent front child last h e = e ∙ sym (ap (λ c. c && same_name parent front) e) ∙ child_is name parent front child last h
