-- The lowest layer of a strand.
use Rattle.std.proofs.Common.{◌≡◌, ℕ, ◌<◌, List, [], ◌∷◌, ◌++◌, ◌-◌, zero, suc, All, length, reverse, refl, sym, ap, ◌∙◌, subst, arith, slice_index_or, get_or}
use Rattle.std.proofs.lemmas.List.{reverse-append, length-reverse, get_or-reverse, length-append}
use Rattle.positions.specs.Layers.{PlainLayer, lowest}

pub lowest_back : (l m : PlainLayer) (ls : List PlainLayer) → lowest l (ls ++ m ∷ []) ≡ m
lowest_back l m [] = refl
lowest_back l m (k ∷ ls) = lowest_back k m ls

pub lowest_first : (l m : PlainLayer) (ls : List PlainLayer) → 0 < length ls → m ≡ slice_index_or ls 0 m → m ≡ lowest l (reverse ls)
lowest_first l m [] h e = absurd (omega arith)
lowest_first l m (k ∷ ls) h e = e ∙ sym (ap (lowest l) (reverse-append (k ∷ []) ls) ∙ lowest_back l k (reverse ls))

-- ---- facts of all elements of a list, and of its reverse

pub all_reverse : {A : Type 0} (P : A → Type 0) (xs : List A) → All P (reverse xs) → All P xs
all_reverse P xs h k d l =
    let less : length xs - 1 - k < length xs = omega arith in
    let there : length xs - 1 - k < length (reverse xs) = rw (length-reverse xs) less in
    let back : length xs - 1 - (length xs - 1 - k) ≡ k = omega arith in
    subst P (get_or-reverse xs (length xs - 1 - k) d less ∙ ap (λ n. get_or xs n d) back) (h (length xs - 1 - k) d there)

within : {A : Type 0} (ys zs : List A) (k : ℕ) (d : A) → k < length ys → get_or (ys ++ zs) k d ≡ get_or ys k d
within [] zs k d l = absurd (omega arith)
within (y ∷ ys) zs zero d l = refl
within (y ∷ ys) zs (suc k) d l = within ys zs k d (omega arith)

at_last : {A : Type 0} (ys : List A) (m d : A) → get_or (ys ++ m ∷ []) (length ys) d ≡ m
at_last [] m d = refl
at_last (y ∷ ys) m d = at_last ys m d

pub all_but_last : {A : Type 0} (P : A → Type 0) (ys : List A) (m : A) → All P (ys ++ m ∷ []) → All P ys
all_but_last P ys m h k d l = subst P (within ys (m ∷ []) k d l) (h k d (rw (length-append ys (m ∷ [])) (omega arith)))

pub last_of_all : {A : Type 0} (P : A → Type 0) (ys : List A) (m : A) → All P (ys ++ m ∷ []) → P m
last_of_all P ys m h = subst P (at_last ys m m) (h (length ys) m (rw (length-append ys (m ∷ [])) (omega arith)))

pub lowest_popped : (l m : PlainLayer) (ys : List PlainLayer) → lowest m (reverse ys) ≡ lowest l (reverse (ys ++ m ∷ []))
lowest_popped l m ys = sym (ap (lowest l) (reverse-append ys (m ∷ [])))
