-- Lists with the same members.
use Rattle.std.proofs.Common.{◌≡◌, ℕ, zero, suc, ◌<◌, List, [], ◌∷◌, ◌++◌, length, map, Contains, inl, inr, ⊎_elim, refl, sym, ◌∙◌, ap, subst, arith, append_assoc}
use Rattle.std.specs.Prelude.{slice_index_or}
use Rattle.trail_theory.specs.Order.{In}
use Rattle.trail_theory.proofs.Places.{in_append, in_left, in_right}
use Rattle.record_theory.specs.Named.{SameMembers}

in_at : {A : Type 0} (xs : List A) (x : A) (k : ℕ) → k < length xs → slice_index_or xs k x ≡ x → In x xs
in_at [] x k l e = absurd (omega (arith, l))
in_at (y ∷ xs) x zero l e = inl (sym e)
in_at (y ∷ xs) x (suc k) l e = inr (in_at xs x k (omega (arith, l)) e)

pub contained : {A : Type 0} (xs : List A) (x : A) → Contains xs x → In x xs
contained xs x c = in_at xs x c.0 c.1 c.2

pub contains : {A : Type 0} (xs : List A) (x : A) → In x xs → Contains xs x
contains [] x h = absurd h
contains (y ∷ xs) x (inl e) = (0, omega arith, sym e)
contains (y ∷ xs) x (inr h) = (let c : Contains xs x = contains xs x h in (suc c.0, omega (arith, c.1), c.2))

-- ---- the same members

pub same_members : {A : Type 0} (xs ys : List A) → ((x : A) → In x xs → In x ys) → ((x : A) → In x ys → In x xs) → SameMembers xs ys
same_members xs ys f g x = ((λ c. contains ys x (f x (contained xs x c))), (λ c. contains xs x (g x (contained ys x c))))

pub there : {A : Type 0} (xs ys : List A) → SameMembers xs ys → (x : A) → In x xs → In x ys
there xs ys h x i = contained ys x ((h x).0 (contains xs x i))

pub back : {A : Type 0} (xs ys : List A) → SameMembers xs ys → (x : A) → In x ys → In x xs
back xs ys h x i = contained xs x ((h x).1 (contains ys x i))

pub members_same : {A : Type 0} (xs ys : List A) → xs ≡ ys → SameMembers xs ys
members_same xs ys e = subst (SameMembers xs) e (λ x. ((λ c. c), (λ c. c)))

pub members_then : {A : Type 0} (xs ys zs : List A) → SameMembers xs ys → SameMembers ys zs → SameMembers xs zs
members_then xs ys zs f g x = ((λ c. (g x).0 ((f x).0 c)), (λ c. (f x).1 ((g x).1 c)))

both_in : {A : Type 0} (xs ys zs ws : List A) → ((x : A) → In x xs → In x ys) → ((x : A) → In x zs → In x ws) → (x : A) → In x (xs ++ zs) → In x (ys ++ ws)
both_in xs ys zs ws f g x h = ⊎_elim (λ i. in_left x ys ws (f x i)) (λ i. in_right x ys ws (g x i)) (in_append x xs zs h)

pub members_append : {A : Type 0} (xs ys zs ws : List A) → SameMembers xs ys → SameMembers zs ws → SameMembers (xs ++ zs) (ys ++ ws)
members_append xs ys zs ws f g =
    same_members (xs ++ zs) (ys ++ ws) (both_in xs ys zs ws (there xs ys f) (there zs ws g)) (both_in ys xs ws zs (back xs ys f) (back zs ws g))

swapped_in : {A : Type 0} (xs ys : List A) (x : A) → In x (xs ++ ys) → In x (ys ++ xs)
swapped_in xs ys x h = ⊎_elim (λ i. in_right x ys xs i) (λ i. in_left x ys xs i) (in_append x xs ys h)

members_swapped : {A : Type 0} (xs ys : List A) → SameMembers (xs ++ ys) (ys ++ xs)
members_swapped xs ys = same_members (xs ++ ys) (ys ++ xs) (swapped_in xs ys) (swapped_in ys xs)

-- two lists of two parts each, part by part
pub members_by_parts : {A : Type 0} (xs ys zs ws : List A) → SameMembers ((xs ++ zs) ++ (ys ++ ws)) ((xs ++ ys) ++ (zs ++ ws))
members_by_parts xs ys zs ws =
    let inner : SameMembers ((zs ++ ys) ++ ws) ((ys ++ zs) ++ ws) = members_append (zs ++ ys) (ys ++ zs) ws ws (members_swapped zs ys) (members_same ws ws refl) in
    let whole : SameMembers (xs ++ ((zs ++ ys) ++ ws)) (xs ++ ((ys ++ zs) ++ ws)) = members_append xs xs ((zs ++ ys) ++ ws) ((ys ++ zs) ++ ws) (members_same xs xs refl) inner in
    subst (λ us. SameMembers us ((xs ++ ys) ++ (zs ++ ws))) (ap (λ us. xs ++ us) (append_assoc zs ys ws) ∙ sym (append_assoc xs zs (ys ++ ws)))
    (subst (SameMembers (xs ++ ((zs ++ ys) ++ ws))) (ap (λ us. xs ++ us) (append_assoc ys zs ws) ∙ sym (append_assoc xs ys (zs ++ ws))) whole)

-- ---- what a function makes of them

pub in_map : {A B : Type 0} (f : A → B) (xs : List A) (x : A) → In x xs → In (f x) (map f xs)
in_map f [] x h = absurd h
in_map f (y ∷ xs) x (inl e) = inl (ap f e)
in_map f (y ∷ xs) x (inr h) = inr (in_map f xs x h)

-- a member of what a function makes of a list
pub record IsMade {A B : Type 0} (f : A → B) (xs : List A) (y : B) : Type 0 where
  pub it : A
  pub is_in : In it xs
  pub is : y ≡ f it

pub made_from : {A B : Type 0} (f : A → B) (xs : List A) (y : B) → In y (map f xs) → IsMade f xs y
made_from f [] y h = absurd h
made_from f (x ∷ xs) y (inl e) = record { it = x; is_in = inl refl; is = e }
made_from f (x ∷ xs) y (inr h) = (let m = made_from f xs y h in record { it = m.it; is_in = inr m.is_in; is = m.is })

mapped_there : {A B : Type 0} (f : A → B) (xs ys : List A) → ((x : A) → In x xs → In x ys) → (y : B) → In y (map f xs) → In y (map f ys)
mapped_there f xs ys h y i =
    let m = made_from f xs y i in subst (λ z. In z (map f ys)) (sym m.is) (in_map f ys m.it (h m.it m.is_in))

pub members_mapped : {A B : Type 0} (f : A → B) (xs ys : List A) → SameMembers xs ys → SameMembers (map f xs) (map f ys)
members_mapped f xs ys h = same_members (map f xs) (map f ys) (mapped_there f xs ys (there xs ys h)) (mapped_there f ys xs (back xs ys h))

pub map_map : {A B C : Type 0} (f : B → C) (g : A → B) (xs : List A) → map f (map g xs) ≡ map (λ x. f (g x)) xs
map_map f g [] = refl
map_map f g (x ∷ xs) = ap (λ l. f (g x) ∷ l) (map_map f g xs)
