-- Tests of lists that have the same members.
use Rattle.std.proofs.Common.{◌≡◌, ℕ, zero, suc, ◌<◌, Bool, true, false, true≢false, List, [], ◌∷◌, length, map, refl, sym, ap, ◌∙◌, arith, Contains, ◌++◌}
use Rattle.std.specs.Prelude.{◌&&◌, slice_index_or}
use Rattle.meaning.specs.Every.{every}
use Rattle.record_theory.specs.Named.{SameMembers}

contains_tail : {A : Type 0} (x y : A) (xs : List A) → Contains xs y → Contains (x ∷ xs) y
contains_tail x y xs c = (suc c.0, omega (arith, c.1), c.2)

contains_head : {A : Type 0} (x : A) (xs : List A) → Contains (x ∷ xs) x
contains_head x xs = (0, omega arith, refl)

pub left_is : (a b : Bool) → a && b ≡ true → a ≡ true
left_is true b e = refl
left_is false b e = absurd (true≢false (sym e))

pub right_is : (a b : Bool) → a && b ≡ true → b ≡ true
right_is true b e = e
right_is false b e = absurd (true≢false (sym e))

passes_at : {A : Type 0} (p : A → Bool) (xs : List A) (i : ℕ) (x : A) → every p xs ≡ true → i < length xs → slice_index_or xs i x ≡ x → p x ≡ true
passes_at p [] i x e l q = absurd (omega arith)
passes_at p (y ∷ xs) zero x e l q = ap p (sym q) ∙ left_is (p y) (every p xs) e
passes_at p (y ∷ xs) (suc i) x e l q = passes_at p xs i x (right_is (p y) (every p xs) e) (omega arith) q

passes : {A : Type 0} (p : A → Bool) (xs : List A) (x : A) → every p xs ≡ true → Contains xs x → p x ≡ true
passes p xs x e c = passes_at p xs c.0 x e c.1 c.2

all_pass : {A : Type 0} (p : A → Bool) (xs : List A) → ((x : A) → Contains xs x → p x ≡ true) → every p xs ≡ true
all_pass p [] h = refl
all_pass p (x ∷ xs) h = rw (h x (contains_head x xs)) (all_pass p xs (λ y c. h y (contains_tail x y xs c)))

equal_if : (a b : Bool) → (a ≡ true → b ≡ true) → (b ≡ true → a ≡ true) → a ≡ b
equal_if true b f g = sym (f refl)
equal_if false true f g = g refl
equal_if false false f g = refl

-- a test of each element asks only what the members are
pub every_member : {A : Type 0} (p : A → Bool) (xs ys : List A) → SameMembers xs ys → every p xs ≡ every p ys
every_member p xs ys h =
    equal_if (every p xs) (every p ys)
    (λ e. all_pass p ys (λ y c. passes p xs y e ((h y).1 c)))
    (λ e. all_pass p xs (λ x c. passes p ys x e ((h x).0 c)))

pub every_mapped : {A B : Type 0} (p : B → Bool) (q : A → Bool) (g : A → B) (xs : List A) → ((x : A) → q x ≡ p (g x)) → every q xs ≡ every p (map g xs)
every_mapped p q g [] h = refl
every_mapped p q g (x ∷ xs) h = ap (λ b. b && every q xs) (h x) ∙ ap (λ b. p (g x) && b) (every_mapped p q g xs h)

pub both : (a b : Bool) → a ≡ true → b ≡ true → a && b ≡ true
both true b e f = f
both false b e f = absurd (true≢false (sym e))

pub every_weaker : {A : Type 0} (p q : A → Bool) (xs : List A) → ((x : A) → p x ≡ true → q x ≡ true) → every p xs ≡ true → every q xs ≡ true
every_weaker p q [] h e = refl
every_weaker p q (x ∷ xs) h e = both (q x) (every q xs) (h x (left_is (p x) (every p xs) e)) (every_weaker p q xs h (right_is (p x) (every p xs) e))

pub every_append : {A : Type 0} (p : A → Bool) (xs ys : List A) → every p (xs ++ ys) ≡ (every p xs && every p ys)
every_append p [] ys = refl
every_append p (x ∷ xs) ys =
    elim (p x) as (λ b. (b && every p (xs ++ ys)) ≡ ((b && every p xs) && every p ys)) [
      | true ↦ every_append p xs ys
      | false ↦ refl
    ]
