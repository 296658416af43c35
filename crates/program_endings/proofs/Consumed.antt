-- Bytes read one part after another.
use Rattle.std.proofs.Common.{◌≡◌, ℕ, ◌≤◌, List, [], ◌∷◌, ◌++◌, All, Option, Some, None, length, take, get_or, refl, subst, append_assoc, append-nil, arith}
use Rattle.std.proofs.lemmas.Bool.{ne_eqb}
use Rattle.std.proofs.lemmas.List.Elements.{All-append, All-cons, All-nil}
use Rattle.std.specs.Prelude.{IfSome}
use Rattle.std.specs.Io.KnownBytes.{Consumes, Keeps, IsAtEnd}
use Rattle.program_endings.specs.Written.{IsNoEnd}

pub Consumes-kept : (a b c : Option (List ℕ)) (xs : List ℕ) → Consumes a b xs → Keeps b c → Consumes a c xs
Consumes-kept None b c xs p q = tt
Consumes-kept (Some a) None c xs p q = absurd p
Consumes-kept (Some a) (Some b) None xs p q = absurd q
Consumes-kept (Some a) (Some b) (Some c) xs p q = cc

pub Consumes-more : (a b c : Option (List ℕ)) (xs ys : List ℕ) → Consumes a b xs → Consumes b c ys → Consumes a c (xs ++ ys)
Consumes-more None b c xs ys p q = tt
Consumes-more (Some a) None c xs ys p q = absurd p
Consumes-more (Some a) (Some b) None xs ys p q = absurd q
Consumes-more (Some a) (Some b) (Some c) xs ys p q = rw (p, q, append_assoc) refl

-- where no byte was read
pub nothing_read : (a b c : Option (List ℕ)) (xs buffer : List ℕ) (n : ℕ) → n ≡ 0
    → Consumes a b xs → Consumes b c (take n buffer) → Consumes a c xs
nothing_read a b c xs buffer n none before next =
    let same : xs ++ take n buffer ≡ xs = rw none (append-nil xs) in
    subst (λ (ys : List ℕ). Consumes a c ys) same (Consumes-more a b c xs (take n buffer) before next)

-- what a buffer of one byte was given, if it was given something
one_byte : (buffer : List ℕ) (n : ℕ) → length buffer ≡ 1 → n ≤ length buffer → (n ≡ 0 → ⊥) → take n buffer ≡ get_or buffer 0 0 ∷ []
one_byte [] n one fits some = let no : ⊥ = omega (arith, one) in absurd no
one_byte (b ∷ []) n one fits some =
    let whole : n ≡ 1 = omega (arith, fits, some) in
    rw whole refl
one_byte (b ∷ d ∷ bs) n one fits some = let no : ⊥ = omega (arith, one) in absurd no

pub byte_read : (a b c : Option (List ℕ)) (xs buffer : List ℕ) (n : ℕ) → length buffer ≡ 1 → n ≤ length buffer → (n ≡ 0 → ⊥)
    → Consumes a b xs → Consumes b c (take n buffer) → Consumes a c (xs ++ get_or buffer 0 0 ∷ [])
byte_read a b c xs buffer n one fits some before next =
    Consumes-more a b c xs (get_or buffer 0 0 ∷ []) before (subst (λ (ys : List ℕ). Consumes b c ys) (one_byte buffer n one fits some) next)

-- one more byte that is no end
pub no_end_more : (xs : List ℕ) (b : ℕ) → All IsNoEnd xs → (b ≡ 10 → ⊥) → All IsNoEnd (xs ++ b ∷ [])
no_end_more xs b all other = All-append IsNoEnd xs (b ∷ []) all (All-cons IsNoEnd b [] (ne_eqb b 10 other) (All-nil IsNoEnd))

-- at the end all known bytes were read
pub all_read : (a b : Option (List ℕ)) (xs : List ℕ) → Consumes a b xs → IsAtEnd b → IfSome a (λ ys. xs ≡ ys)
all_read None b xs p q = tt
all_read (Some a) None xs p q = absurd p
all_read (Some a) (Some b) xs p q = rw (p, q, append-nil) refl
