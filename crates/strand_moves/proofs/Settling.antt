-- The instance of a stack that takes a value, counted from the top or from the bottom.
use Rattle.std.proofs.Common.{◌≡◌, ℕ, zero, suc, ◌-◌, ◌<◌, ◌≤◌, ℤ, List, [], ◌∷◌, ◌++◌, length, reverse, refl, sym, ap, ◌∙◌, subst, arith, get_or, set}
use Rattle.std.proofs.Math.Dec.{eqb-suc-zero}
use Rattle.std.proofs.lemmas.List.{reverse-append, length-reverse, get_or-reverse}
use Rattle.positions.specs.declared.start.Start.TheVariants.{Behind}
use Rattle.positions.specs.Activations.{PlainActivation}
use Rattle.positions.specs.Strands.{PlainStrand}
use Rattle.positions.specs.Moves.{settled, settled_below, settled_at, settled_by}

set_left : {A : Type 0} (xs ys : List A) (i : ℕ) (y : A) → i < length xs → set (xs ++ ys) i y ≡ set xs i y ++ ys
set_left [] ys i y l = absurd (omega arith)
set_left (x ∷ xs) ys zero y l = refl
set_left (x ∷ xs) ys (suc i) y l = ap (λ zs. x ∷ zs) (set_left xs ys i y (omega arith))

set_end : {A : Type 0} (xs : List A) (x y : A) → set (xs ++ x ∷ []) (length xs) y ≡ xs ++ y ∷ []
set_end [] x y = refl
set_end (z ∷ xs) x y = ap (λ zs. z ∷ zs) (set_end xs x y)

reverse_set : {A : Type 0} (xs : List A) (j : ℕ) (y : A) → j < length xs → reverse (set xs j y) ≡ set (reverse xs) (length xs - suc j) y
reverse_set [] j y l = absurd (omega arith)
reverse_set (x ∷ xs) zero y l =
    reverse-append (y ∷ []) xs ∙ sym (set_end (reverse xs) x y)
    ∙ sym (ap (λ zs. set zs (length (reverse xs)) y) (reverse-append (x ∷ []) xs))
    ∙ ap (λ n. set (reverse (x ∷ xs)) n y) (length-reverse xs ∙ (let e : length xs ≡ length (x ∷ xs) - 1 = omega arith in e))
reverse_set (x ∷ xs) (suc j) y l =
    let less : length xs - suc j < length (reverse xs) = rw (length-reverse xs) (omega arith) in
    reverse-append (x ∷ []) (set xs j y) ∙ ap (λ zs. zs ++ x ∷ []) (reverse_set xs j y (omega arith))
    ∙ sym (set_left (reverse xs) (x ∷ []) (length xs - suc j) y less)
    ∙ sym (ap (λ zs. set zs (length xs - suc j) y) (reverse-append (x ∷ []) xs))
    ∙ ap (λ n. set (reverse (x ∷ xs)) n y) (let e : length xs - suc j ≡ length (x ∷ xs) - suc (suc j) = omega arith in e)

settled_there : (k : ℕ) (v : ℤ) (xs : List PlainActivation) (i : ℕ) (d : PlainActivation) → i < length xs → settled_below i k v xs ≡ set xs i (settled k v (get_or xs i d))
settled_there k v [] i d l = absurd (omega arith)
settled_there k v (x ∷ xs) zero d l = refl
settled_there k v (x ∷ xs) (suc i) d l =
    rw (eqb-suc-zero i) (ap (λ zs. x ∷ zs) (ap (λ n. settled_below n k v xs) (let e : suc i - 1 ≡ i = omega arith in e) ∙ settled_there k v xs i d (omega arith)))

pub settled_beyond : (k : ℕ) (v : ℤ) (xs : List PlainActivation) (i : ℕ) → length xs ≤ i → settled_below i k v xs ≡ xs
settled_beyond k v [] i l = refl
settled_beyond k v (x ∷ xs) zero l = absurd (omega arith)
settled_beyond k v (x ∷ xs) (suc i) l =
    rw (eqb-suc-zero i) (ap (λ zs. x ∷ zs) (ap (λ n. settled_below n k v xs) (let e : suc i - 1 ≡ i = omega arith in e) ∙ settled_beyond k v xs i (omega arith)))

-- the one so many places under the top, from the bottom
settled_from_bottom : (k : ℕ) (v : ℤ) (items : List PlainActivation) (i : ℕ) (a : PlainActivation) → i < length items → a ≡ get_or items (length items - suc i) a
    → settled_below i k v (reverse items) ≡ reverse (set items (length items - suc i) (settled k v a))
settled_from_bottom k v items i a l e =
    let less : i < length (reverse items) = rw (length-reverse items) (omega arith) in
    let one : length items - 1 - i ≡ length items - suc i = omega arith in
    let there : get_or (reverse items) i a ≡ a = get_or-reverse items i a l ∙ ap (λ n. get_or items n a) one ∙ sym e in
    let back : length items - suc (length items - suc i) ≡ i = omega arith in
    settled_there k v (reverse items) i a less
    ∙ ap (λ b. set (reverse items) i (settled k v b)) there
    ∙ sym (reverse_set items (length items - suc i) (settled k v a) (omega arith) ∙ ap (λ n. set (reverse items) n (settled k v a)) back)

at_above : (s : PlainStrand) (i k : ℕ) (v : ℤ) → settled_at (suc i) k v s ≡ record s { below = settled_below i k v s.below }
at_above s i k v = rw (eqb-suc-zero i) (ap (λ n. record s { below = settled_below n k v s.below }) (let e : suc i - 1 ≡ i = omega arith in e))

-- the entry of a strand takes the value, where it waits below the top
pub settled_under : (s : PlainStrand) (items : List PlainActivation) (a new : PlainActivation) (depth child above place : ℕ) (v : ℤ) → s.start ≡ Behind depth child → s.below ≡ reverse items
    → above ≡ length s.path - depth → 0 < above → above ≤ length items → place ≡ length items - above → a ≡ get_or items place a → new ≡ settled child v a
    → record s { below = reverse (set items place new) } ≡ settled_by s.start v s
settled_under s items a new depth child zero place v h b e more l p at n = absurd (omega arith)
settled_under s items a new depth child (suc i) place v h b e more l p at n =
    ap (λ m. record s { below = reverse (set items place m) }) n
    ∙ ap (λ q. record s { below = reverse (set items q (settled child v a)) }) p
    ∙ ap (λ bs. record s { below = bs }) (sym (settled_from_bottom child v items i a (omega arith) (subst (λ q. a ≡ get_or items q a) p at)))
    ∙ ap (λ bs. record s { below = settled_below i child v bs }) (sym b)
    ∙ sym (at_above s i child v)
    ∙ ap (λ m. settled_at m child v s) e
    ∙ sym (ap (λ st. settled_by st v s) h)

pub settled_nowhere : (s : PlainStrand) (items : List PlainActivation) (depth child above : ℕ) (v : ℤ) → s.start ≡ Behind depth child → s.below ≡ reverse items → above ≡ length s.path - depth
    → length items < above → s ≡ settled_by s.start v s
settled_nowhere s items depth child zero v h b e l = absurd (omega arith)
settled_nowhere s items depth child (suc i) v h b e l =
    let beyond : length s.below ≤ i = rw (b) (rw (length-reverse items) (omega arith)) in
    sym (sym (ap (λ m. settled_at m child v s) e) ∙ at_above s i child v ∙ ap (λ bs. record s { below = bs }) (settled_beyond child v s.below i beyond))
    ∙ sym (ap (λ st. settled_by st v s) h)
