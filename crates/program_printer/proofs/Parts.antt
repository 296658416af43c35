-- Parts that are written one behind the other.
use Rattle.std.proofs.Common.{◌≡◌, ◌≤◌, List, [], ◌∷◌, map, length, drop, take, ◌-◌, zero, suc, refl, ap, slice_index_or, string_bytes, ℤ, pos, negsuc, true, false, min, sym, Result, Ok, Err, OnOk, ℕ, ◌∙◌, arith}
use Rattle.meaning.specs.Tree.{Name}
use Rattle.std.specs.Prelude.{codes, int_lt, unsigned_abs}
use Rattle.std.proofs.lemmas.Bool.{ltb-true}
use Rattle.token_scanner.specs.declared.token.Mark.TheVariants as mark
use Rattle.token_scanner.specs.Words.{Word, Sign, Number}
use Rattle.token_scanner.specs.Words as word
use Rattle.std.specs.declared.string.String.{String}
use Rattle.std.specs.Global.{Global}
use Rattle.token_spelling.specs.Spelling.{Puts}
use Rattle.meaning.specs.declared.tree.Expr.{Expr}
use Rattle.meaning.specs.TreeView.{term}
use Rattle.program_printer.specs.Printing.{term_words, more_terms, terms_words, more_numbers, numbers_words, signed_words, more_signed_words, initial_words, more_names, names_words}

pub on_ok : {T E : Type 0} (r : Result T E) (P Q : Type 0) → (P → Q) → OnOk r P → OnOk r Q
on_ok (Ok x) P Q f p = f p
on_ok (Err e) P Q f p = tt

take_nil : {A : Type 0} (n : ℕ) → take {A = A} n [] ≡ []
take_nil zero = refl
take_nil (suc n) = refl

pub take_all : {A : Type 0} (n : ℕ) (xs : List A) → n ≡ length xs → take n xs ≡ xs
take_all zero [] e = refl
take_all (suc n) [] e = absurd (omega arith)
take_all zero (x ∷ xs) e = absurd (omega arith)
take_all (suc n) (x ∷ xs) e = ap (λ ys. x ∷ ys) (take_all n xs (omega arith))

-- the first of some expressions, and the others
pub first_put : {T E : Type 0} (r : Result T E) (names : List Name) (es : List Expr) (x : Expr) (a b c : List ℕ)
    → 1 ≤ length es → x ≡ slice_index_or es 0 x → Puts a b (term_words names (term x)) → OnOk r (Puts b c (more_terms names (map term (take (length es - 1) (drop 1 es)))))
    → OnOk r (Puts a c (terms_words names (map term es)))
first_put r names [] x a b c h e p q = absurd (omega arith)
first_put r names (y ∷ es) x a b c h e p q =
    let s = rw e at p in
    let k : take (length (y ∷ es) - 1) es ≡ es = take_all (length (y ∷ es) - 1) es (omega arith) in
    let t = rw k at q in
    on_ok r (Puts b c (more_terms names (map term es))) (Puts a c (terms_words names (map term (y ∷ es)))) (λ last us. s _ ∙ last us) t

-- the first of some numbers, and the others
pub first_number_put : {T E : Type 0} (r : Result T E) (ns : List ℕ) (a b c : List ℕ)
    → 1 ≤ length ns → Puts a b (λ us. Number (pos (slice_index_or ns 0 0)) ∷ us) → OnOk r (Puts b c (more_numbers (take (length ns - 1) (drop 1 ns))))
    → OnOk r (Puts a c (numbers_words ns))
first_number_put r [] a b c h p q = absurd (omega arith)
first_number_put r (n ∷ ns) a b c h p q =
    let k : take (length (n ∷ ns) - 1) ns ≡ ns = take_all (length (n ∷ ns) - 1) ns (omega arith) in
    let t = rw k at q in
    on_ok r (Puts b c (more_numbers ns)) (Puts a c (numbers_words (n ∷ ns))) (λ last us. p _ ∙ last us) t

-- a number below zero, and one that isn't
pub signed_below : {T E : Type 0} (r : Result T E) (z : ℤ) (a b : List ℕ) → int_lt z (pos 0) ≡ true → OnOk r (Puts a b (λ us. Sign mark.Minus ∷ Number (pos (unsigned_abs z)) ∷ us)) → OnOk r (Puts a b (signed_words z))
signed_below r (pos n) a b h p = absurd (omega (arith, ltb-true n 0 h))
signed_below r (negsuc n) a b h p = p

pub signed_above : {T E : Type 0} (r : Result T E) (z : ℤ) (a b : List ℕ) → int_lt z (pos 0) ≡ false → OnOk r (Puts a b (λ us. Number (pos (unsigned_abs z)) ∷ us)) → OnOk r (Puts a b (signed_words z))
signed_above r (pos n) a b h p = p
signed_above r (negsuc n) a b h p = absurd cc

-- one part behind another
pub behind : {T E : Type 0} (r : Result T E) (a b c : List ℕ) (f g : List Word → List Word) → Puts a b f → OnOk r (Puts b c g) → OnOk r (Puts a c (λ us. f (g us)))
behind r a b c f g p q = on_ok r (Puts b c g) (Puts a c (λ us. f (g us))) (λ last us. p (g us) ∙ last us) q

-- the first number of an initial value, and the others
pub first_signed_put : {T E : Type 0} (r : Result T E) (ns : List ℤ) (a b c : List ℕ)
    → 1 ≤ length ns → Puts a b (λ us. word.Name (codes "from") ∷ signed_words (slice_index_or ns 0 (pos 0)) us) → OnOk r (Puts b c (more_signed_words (take (length ns - 1) (drop 1 ns))))
    → OnOk r (Puts a c (initial_words ns))
first_signed_put r [] a b c h p q = absurd (omega arith)
first_signed_put r (n ∷ ns) a b c h p q =
    let k : take (length (n ∷ ns) - 1) ns ≡ ns = take_all (length (n ∷ ns) - 1) ns (omega arith) in
    let t = rw k at q in
    on_ok r (Puts b c (more_signed_words ns)) (Puts a c (initial_words (n ∷ ns))) (λ last us. p _ ∙ last us) t

-- the first of some names, and the others
pub first_name_put : {T E : Type 0} (r : Result T E) (xs : List (String Global)) (x : String Global) (y : Name) (a b c : List ℕ)
    → 1 ≤ length xs → x ≡ slice_index_or xs 0 x → y ≡ string_bytes x → Puts a b (λ us. word.Name y ∷ us) → OnOk r (Puts b c (more_names (map string_bytes (take (length xs - 1) (drop 1 xs)))))
    → OnOk r (Puts a c (names_words (map string_bytes xs)))
first_name_put r [] x y a b c h e f p q = absurd (omega arith)
first_name_put r (z ∷ xs) x y a b c h e f p q =
    let s = rw (f ∙ ap (λ (w : String Global). string_bytes w) e) at p in
    let k : take (length (z ∷ xs) - 1) xs ≡ xs = take_all (length (z ∷ xs) - 1) xs (omega arith) in
    let t = rw k at q in
    on_ok r (Puts b c (more_names (map string_bytes xs))) (Puts a c (names_words (map string_bytes (z ∷ xs)))) (λ last us. s _ ∙ last us) t

pub names_taken : (n : ℕ) (xs : List (String Global)) → map string_bytes (take (min n (length xs)) xs) ≡ take n (map string_bytes xs)
names_taken n [] = let e : take {A = String Global} (min n 0) [] ≡ [] = take_nil (min n 0) in rw e (sym (take_nil n))
names_taken zero (x ∷ xs) = let e : min 0 (length (x ∷ xs)) ≡ 0 = omega arith in rw e refl
names_taken (suc n) (x ∷ xs) = let e : min (suc n) (suc (length xs)) ≡ suc (min n (length xs)) = omega arith in rw e (ap (λ ys. string_bytes x ∷ ys) (names_taken n xs))
