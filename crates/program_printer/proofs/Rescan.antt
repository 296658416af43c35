-- The tokens of a printed text are those that were printed.
use Rattle.std.proofs.Common.{◌≡◌, ℕ, zero, suc, ◌+◌, ◌-◌, ◌*◌, ◌/◌, ◌%◌, ◌<◌, ◌≤◌, ◌^◌, pos, negsuc, Bool, true, false, cond, eqb, ltb, length-append, lit<, List, [], ◌∷◌, ◌++◌, length, take, drop, refl, ap, ◌∙◌, arith, inl, inr, ◌⊎◌}
use Rattle.std.specs.Prelude.{None}
use Rattle.std.specs.Fmt as fmt
use Rattle.std.proofs.lemmas.Nat.{div-add-mod'}
use Rattle.std.proofs.lemmas.Fmt.{decimal_by_steps, decimal_nonempty}
use Rattle.token_scanner.specs.declared.scanning.Class.TheVariants as class
use Rattle.token_scanner.specs.declared.token.Mark.{Mark}
use Rattle.token_scanner.specs.declared.token.Mark.TheVariants.{OpenBrace, CloseBrace, Semicolon}
use Rattle.token_scanner.specs.Words.{Word, Name, Number, Sign, Bad, Over}
use Rattle.token_scanner.specs.Scanning.{scan, word_at, mark_of, single_of, name_of, number_of, keyword_of, is_letter, is_digit, is_space, belongs, front_len, decimal, tokens_of}
use Rattle.token_spelling.specs.Spelling.{mark_text, word_text, gap, starts_else, written}
use Rattle.program_printer.specs.Tokens.{IsName, IsToken, AllTokens, bare}

on_bool : (b : Bool) → (b ≡ true) ⊎ (b ≡ false)
on_bool true = inl refl
on_bool false = inr refl

-- what parts tokens
data IsGap : ℕ → Type 0 where
  blank : IsGap 32
  end_of_line : IsGap 10

-- ---- marks

marked : (m : Mark) (g : ℕ) → IsGap g → (more : List ℕ) (k line : ℕ) → scan (suc k) line (mark_text m ++ g ∷ more) ≡ (Sign m, line) ∷ scan k line (g ∷ more)
unfolding scan word_at mark_of single_of keyword_of
marked OpenBrace _ blank more k line = refl
marked m _ blank more k line = refl
marked OpenBrace _ end_of_line more k line = refl
marked m _ end_of_line more k line = refl

-- ---- runs of bytes

module _ (p : ℕ → Bool) where
  belongs_first : (b : ℕ) (bs : List ℕ) → front_len p (b ∷ bs) ≡ suc (length bs) → (p b ≡ true) × (front_len p bs ≡ length bs)
  belongs_first b bs h =
      elim (on_bool (p b)) [
        | inl t ↦ (t, let e : suc (front_len p bs) ≡ suc (length bs) = rw t at h in omega arith)
        | inr f ↦ absurd (let e : 0 ≡ suc (length bs) = rw f at h in omega arith)
      ]

  front_run : (x : List ℕ) (g : ℕ) (more : List ℕ) → front_len p x ≡ length x → p g ≡ false → front_len p (x ++ g ∷ more) ≡ length x
  front_run [] g more h e = rw e refl
  front_run (b ∷ bs) g more h e = let q = belongs_first b bs h in rw (q.0, front_run bs g more q.1 e) refl

take_front : (x y : List ℕ) → take (length x) (x ++ y) ≡ x
take_front [] y = refl
take_front (b ∷ x) y = ap (λ (z : List ℕ). b ∷ z) (take_front x y)

drop_front : (x y : List ℕ) → drop (length x) (x ++ y) ≡ y
drop_front [] y = refl
drop_front (b ∷ x) y = drop_front x y

-- one token
step : (b : ℕ) (bs : List ℕ) (w : Word) (n k line : ℕ) → eqb b 10 ≡ false → is_space b ≡ false → eqb b 35 ≡ false → word_at b (b ∷ bs) ≡ (w, n) → scan (suc k) line (b ∷ bs) ≡ (w, line) ∷ scan k line (drop n (b ∷ bs))
unfolding scan
step b bs w n k line e f g h = rw (e, f, g, h) refl

not_space : (g : ℕ) → IsGap g → (belongs class.InName g ≡ false) × (belongs class.InNumber g ≡ false)
not_space _ blank = (refl, refl)
not_space _ end_of_line = (refl, refl)

-- ---- names

letter_is : (b : ℕ) → is_letter b ≡ true → (eqb b 10 ≡ false) × (is_space b ≡ false) × (eqb b 35 ≡ false)
letter_is b h = (grind arith, grind arith, grind arith)

named_by : (x : List ℕ) → length x ≤ 32 → keyword_of x ≡ None → name_of x ≡ Name x
named_by x h e = let l : ltb 32 (length x) ≡ false = grind arith in rw (l, e) refl

word_name : (b : ℕ) (bs : List ℕ) (n : ℕ) (all : List ℕ) → is_letter b ≡ true → front_len (belongs class.InName) all ≡ n → take n all ≡ b ∷ bs → name_of (b ∷ bs) ≡ Name (b ∷ bs) → word_at b all ≡ (Name (b ∷ bs), n)
unfolding word_at
word_name b bs n all h e f g = rw (h, e, f, g) refl

named : (x : List ℕ) → IsName x → (g : ℕ) → IsGap g → (more : List ℕ) (k line : ℕ) → scan (suc k) line (x ++ g ∷ more) ≡ (Name x, line) ∷ scan k line (g ∷ more)
named [] i g is more k line = absurd (let h : false ≡ true = i.begins in cc)
named (b ∷ bs) i g is more k line =
    let t = letter_is b i.begins in
    let n = front_run (belongs class.InName) (b ∷ bs) g more i.goes_on (not_space g is).0 in
    let w = word_name b bs (length (b ∷ bs)) (b ∷ bs ++ g ∷ more) i.begins n (take_front (b ∷ bs) (g ∷ more)) (named_by (b ∷ bs) i.short i.no_keyword) in
    step b (bs ++ g ∷ more) (Name (b ∷ bs)) (length (b ∷ bs)) k line t.0 t.1 t.2 w ∙ ap (λ (z : List ℕ). (Name (b ∷ bs), line) ∷ scan k line z) (drop_front (b ∷ bs) (g ∷ more))

-- ---- numbers

decimal_append : (ds es : List ℕ) (n : ℕ) → decimal n (ds ++ es) ≡ decimal (decimal n ds) es
decimal_append [] es n = refl
decimal_append (d ∷ ds) es n = decimal_append ds es (n * 10 + (d - 48))

abbrev starts_digit : List ℕ → Bool
starts_digit [] = false
starts_digit (b ∷ bs) = is_digit b

record IsNumeral (n : ℕ) (ds : List ℕ) : Type 0 where
  begins : starts_digit ds ≡ true
  goes_on : front_len (belongs class.InNumber) ds ≡ length ds
  value : decimal 0 ds ≡ n

front_push : (p : ℕ → Bool) (ds : List ℕ) (d : ℕ) → front_len p ds ≡ length ds → p d ≡ true → front_len p (ds ++ d ∷ []) ≡ length (ds ++ d ∷ [])
front_push p [] d h e = rw e refl
front_push p (b ∷ ds) d h e = let q = belongs_first p b ds h in rw (q.0, front_push p ds d q.1 e) refl

starts_push : (ds : List ℕ) (d : ℕ) → starts_digit ds ≡ true → starts_digit (ds ++ d ∷ []) ≡ true
starts_push [] d h = absurd cc
starts_push (b ∷ ds) d h = h

digit_is : (n : ℕ) → n < 10 → is_digit (48 + n) ≡ true
digit_is n h = grind arith

numeral : (n : ℕ) → n < 2 ^ 64 → IsNumeral n (fmt.decimal n)
numeral = decimal_by_steps IsNumeral
    (λ n h. let e : 0 * 10 + ((48 + n) - 48) ≡ n = omega arith in record { begins = digit_is n h; goes_on = front_push (belongs class.InNumber) [] (48 + n) refl (digit_is n h); value = e })
    (λ n ds h q.
    let r : n % 10 < 10 = omega arith in
    let v : n / 10 * 10 + ((48 + n % 10) - 48) ≡ n = omega (arith, div-add-mod' n 10) in
    record {
      begins = starts_push ds (48 + n % 10) q.begins;
      goes_on = front_push (belongs class.InNumber) ds (48 + n % 10) q.goes_on (digit_is (n % 10) r);
      value = decimal_append ds ((48 + n % 10) ∷ []) 0 ∙ ap (λ m. m * 10 + ((48 + n % 10) - 48)) q.value ∙ v;
    })

digit_fact : (b : ℕ) → is_digit b ≡ true → (eqb b 10 ≡ false) × (is_space b ≡ false) × (eqb b 35 ≡ false) × (is_letter b ≡ false)
digit_fact b h = (grind arith, grind arith, grind arith, grind arith)

numbered_by : (n : ℕ) (ds : List ℕ) → decimal 0 ds ≡ n → n ≤ 9223372036854775807 → number_of ds ≡ Number (pos n)
unfolding number_of
numbered_by n ds e h = let l : ltb 9223372036854775807 n ≡ false = grind arith in rw (e, l) refl

word_number : (b : ℕ) (ds : List ℕ) (w : Word) (n : ℕ) (all : List ℕ) → is_letter b ≡ false → is_digit b ≡ true → front_len (belongs class.InNumber) all ≡ n → take n all ≡ ds → number_of ds ≡ w → word_at b all ≡ (w, n)
unfolding word_at
word_number b ds w n all h d e f g = rw (h, d, e, f, g) refl

counted : (n : ℕ) (ds : List ℕ) → IsNumeral n ds → n ≤ 9223372036854775807 → (g : ℕ) → IsGap g → (more : List ℕ) (k line : ℕ) → scan (suc k) line (ds ++ g ∷ more) ≡ (Number (pos n), line) ∷ scan k line (g ∷ more)
counted n [] i small g is more k line = absurd (let h : false ≡ true = i.begins in cc)
counted n (b ∷ ds) i small g is more k line =
    let t = digit_fact b i.begins in
    let m = front_run (belongs class.InNumber) (b ∷ ds) g more i.goes_on (not_space g is).1 in
    let w = word_number b (b ∷ ds) (Number (pos n)) (length (b ∷ ds)) (b ∷ ds ++ g ∷ more) t.3 i.begins m (take_front (b ∷ ds) (g ∷ more)) (numbered_by n (b ∷ ds) i.value small) in
    step b (ds ++ g ∷ more) (Number (pos n)) (length (b ∷ ds)) k line t.0 t.1 t.2 w ∙ ap (λ (z : List ℕ). (Number (pos n), line) ∷ scan k line z) (drop_front (b ∷ ds) (g ∷ more))

-- ---- tokens

one : (w : Word) → IsToken w → (g : ℕ) → IsGap g → (more : List ℕ) (k line : ℕ) → scan (suc k) line (word_text w ++ g ∷ more) ≡ (w, line) ∷ scan k line (g ∷ more)
one (Name x) i g is more k line = named x i g is more k line
one (Number (pos n)) i g is more k line = counted n (fmt.decimal n) (numeral n (omega arith)) i g is more k line
one (Number (negsuc n)) i g is more k line = absurd i
one (Sign m) i g is more k line = marked m g is more k line
one Bad i g is more k line = absurd i
one Over i g is more k line = absurd i

text_there : (w : Word) → IsToken w → 0 < length (word_text w)
text_there (Name []) i = absurd (let h : false ≡ true = i.begins in cc)
text_there (Name (b ∷ bs)) i = omega arith
text_there (Number (pos n)) i = decimal_nonempty n (omega arith)
text_there (Number (negsuc n)) i = absurd i
text_there (Sign OpenBrace) i = lit< tt
text_there (Sign m) i = lit< tt
text_there Bad i = absurd i
text_there Over i = absurd i

either : (b : Bool) → IsGap (cond b 32 10)
either true = blank
either false = end_of_line

gap_is : (w : Word) (ws : List Word) → IsGap (gap w ws)
gap_is (Sign Semicolon) ws = end_of_line
gap_is (Sign OpenBrace) ws = end_of_line
gap_is (Sign CloseBrace) ws = either (starts_else ws)
gap_is w ws = blank

-- a space or an end of line is no token
skipped : (g : ℕ) → IsGap g → (bs : List ℕ) (k line : ℕ) → (next : ℕ) × (scan (suc k) line (g ∷ bs) ≡ scan k next bs)
unfolding scan
skipped _ blank bs k line = (line, refl)
skipped _ end_of_line bs k line = (line + 1, refl)

scanned : (ws : List Word) → AllTokens ws → (k line : ℕ) → length (written ws) ≤ k → bare (scan k line (written ws)) ≡ ws
unfolding scan written
scanned [] i zero line h = refl
scanned [] i (suc k) line h = refl
scanned (w ∷ ws) i zero line h = absurd (omega (arith, length-append (word_text w) (gap w ws ∷ written ws)))
scanned (w ∷ ws) i (suc zero) line h = absurd (omega (arith, text_there w i.0, length-append (word_text w) (gap w ws ∷ written ws)))
scanned (w ∷ ws) i (suc (suc k)) line h =
    let s = skipped (gap w ws) (gap_is w ws) (written ws) k line in
    let n : length (written ws) ≤ k = omega (arith, text_there w i.0, length-append (word_text w) (gap w ws ∷ written ws)) in
    rw (one w i.0 (gap w ws) (gap_is w ws) (written ws) (suc k) line, s.1) (ap (λ (z : List Word). w ∷ z) (scanned ws i.1 k s.0 n))

pub tokens_again : (ws : List Word) → AllTokens ws → bare (tokens_of (written ws)) ≡ ws
tokens_again ws i = scanned ws i (length (written ws)) 1 (omega arith)
