-- What the scanner gives is a token that can be written, or no token of the language.
use Rattle.std.proofs.Common.{◌≡◌, ℕ, zero, suc, ◌+◌, ◌≤◌, Bool, true, false, cond, eqb, ltb, List, [], ◌∷◌, length, take, drop, Option, Some, None, refl, arith, inl, inr, ◌⊎◌}
use Rattle.token_scanner.specs.declared.scanning.Class.TheVariants as class
use Rattle.token_scanner.specs.declared.token.Mark.{Mark}
use Rattle.token_scanner.specs.Words.{Word, Words, Name, Number, Sign, Bad, Over, for_some}
use Rattle.token_scanner.specs.Scanning.{scan, word_at, mark_of, single_of, name_of, number_of, keyword_of, is_letter, is_digit, is_space, belongs, front_len, decimal, longer, followed, tokens_of}
use Rattle.program_printer.specs.Tokens.{IsName, starts_letter, IsToken}

abbrev pub IsRead : Word → Type 0
IsRead (Name x) = IsName x
IsRead (Number n) = IsToken (Number n)
IsRead (Sign m) = Unit {0}
IsRead Bad = Unit {0}
IsRead Over = ⊥

abbrev pub AllRead : Words → Type 0
AllRead [] = Unit {0}
AllRead (t ∷ ts) = IsRead t.0 × AllRead ts

on_bool : (b : Bool) → (b ≡ true) ⊎ (b ≡ false)
on_bool true = inl refl
on_bool false = inr refl

-- ---- names

run_belongs : (p : ℕ → Bool) (bs : List ℕ) → front_len p (take (front_len p bs) bs) ≡ length (take (front_len p bs) bs)
run_belongs p [] = refl
run_belongs p (b ∷ bs) =
    elim (on_bool (p b)) [
      | inl t ↦ rw t (let e = run_belongs p bs in rw (t, e) refl)
      | inr f ↦ rw f refl
    ]

letter_belongs : (b : ℕ) → is_letter b ≡ true → belongs class.InName b ≡ true
letter_belongs b h = grind arith

starts_run : (b : ℕ) (bs : List ℕ) → is_letter b ≡ true → starts_letter (take (front_len (belongs class.InName) (b ∷ bs)) (b ∷ bs)) ≡ true
starts_run b bs h = rw (letter_belongs b h) h

keyword_read : (x : List ℕ) (o : Option Mark) → keyword_of x ≡ o → starts_letter x ≡ true → front_len (belongs class.InName) x ≡ length x → length x ≤ 32 → IsRead (for_some o (Name x) (λ m. Sign m))
keyword_read x None e a b c = record { begins = a; goes_on = b; short = c; no_keyword = e }
keyword_read x (Some m) e a b c = tt

name_read : (x : List ℕ) → starts_letter x ≡ true → front_len (belongs class.InName) x ≡ length x → IsRead (name_of x)
name_read x a b =
    elim (on_bool (ltb 32 (length x))) [
      | inl t ↦ rw t tt
      | inr f ↦ let c : length x ≤ 32 = grind arith in rw f (keyword_read x (keyword_of x) refl a b c)
    ]

-- ---- numbers

number_read : (ds : List ℕ) → IsRead (number_of ds)
unfolding number_of
number_read ds =
    elim (on_bool (ltb 9223372036854775807 (decimal 0 ds))) [
      | inl t ↦ rw t tt
      | inr f ↦ let c : decimal 0 ds ≤ 9223372036854775807 = grind arith in rw f c
    ]

-- ---- marks

one_read : (b : Bool) (v w : Word) → IsRead v → IsRead w → IsRead (cond b v w)
one_read true v w h i = h
one_read false v w h i = i

pair_read : (b : Bool) (x y : Word × ℕ) → IsRead x.0 → IsRead y.0 → IsRead (cond b x y).0
pair_read true x y h i = h
pair_read false x y h i = i

longer_read : (b : Bool) (v w : Word) → IsRead v → IsRead w → IsRead (longer b v w).0
longer_read true v w h i = h
longer_read false v w h i = i

single_read : (b : ℕ) → IsRead (single_of b)
unfolding single_of
single_read b =
    one_read (eqb b 123) _ _ tt (one_read (eqb b 125) _ _ tt (one_read (eqb b 40) _ _ tt (one_read (eqb b 41) _ _ tt (one_read (eqb b 91) _ _ tt (one_read (eqb b 93) _ _ tt (one_read (eqb b 58) _ _ tt
    (one_read (eqb b 59) _ _ tt (one_read (eqb b 44) _ _ tt (one_read (eqb b 43) _ _ tt (one_read (eqb b 45) _ _ tt (one_read (eqb b 42) _ _ tt (one_read (eqb b 47) _ _ tt (one_read (eqb b 37) _ _ tt tt)))))))))))))

mark_read : (b : ℕ) (bs : List ℕ) → IsRead (mark_of b bs).0
unfolding mark_of
mark_read b bs =
    pair_read (eqb b 46) _ _ (longer_read (followed 46 bs) _ _ tt tt)
    (pair_read (eqb b 61) _ _ (longer_read (followed 61 bs) _ _ tt tt)
    (pair_read (eqb b 33) _ _ (longer_read (followed 61 bs) _ _ tt tt)
    (pair_read (eqb b 60) _ _ (longer_read (followed 61 bs) _ _ tt tt)
    (pair_read (eqb b 62) _ _ (longer_read (followed 61 bs) _ _ tt tt) (single_read b)))))

-- ---- texts

first_read : (b : Bool) (x y : Word × ℕ) → (b ≡ true → IsRead x.0) → IsRead y.0 → IsRead (cond b x y).0
first_read true x y h i = h refl
first_read false x y h i = i

word_read : (b : ℕ) (bs : List ℕ) → IsRead (word_at b (b ∷ bs)).0
unfolding word_at
word_read b bs =
    first_read (is_letter b) _ _ (λ t. name_read (take (front_len (belongs class.InName) (b ∷ bs)) (b ∷ bs)) (starts_run b bs t) (run_belongs (belongs class.InName) (b ∷ bs)))
    (first_read (is_digit b) _ _ (λ t. number_read (take (front_len (belongs class.InNumber) (b ∷ bs)) (b ∷ bs)))
    (mark_read b (b ∷ bs)))

choice_read : (b : Bool) (ts us : Words) → AllRead ts → AllRead us → AllRead (cond b ts us)
choice_read true ts us h i = h
choice_read false ts us h i = i

scan_read : (k line : ℕ) (bs : List ℕ) → AllRead (scan k line bs)
unfolding scan
scan_read zero line bs = tt
scan_read (suc k) line [] = tt
scan_read (suc k) line (b ∷ bs) =
    choice_read (eqb b 10) _ _ (scan_read k (line + 1) bs)
    (choice_read (is_space b) _ _ (scan_read k line bs)
    (choice_read (eqb b 35) _ _ (scan_read k line (drop (front_len (belongs class.InComment) (b ∷ bs)) (b ∷ bs)))
    (word_read b bs, scan_read k line (drop (word_at b (b ∷ bs)).1 (b ∷ bs)))))

pub tokens_read : (text : List ℕ) → AllRead (tokens_of text)
tokens_read text = scan_read (length text) 1 text
