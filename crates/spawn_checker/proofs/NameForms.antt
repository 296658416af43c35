-- The names of tables and columns are those that the scanner finds.
use Rattle.std.proofs.Common.{◌≡◌, ℕ, suc, Bool, true, false, cond, not, ◌&&◌, ◌==◌, List, [], ◌∷◌, length, map, take, Option, Some, None, nat_lt, nat_le, bytes_eq, codes, if◌then◌else◌, pos, refl, sym, ap, ◌∙◌, arith}
use Rattle.std.proofs.lemmas.Bool.{leb-true, leb-false, ltb-true, lt-ltb, false_from_ne_true}
use Rattle.std.specs.Prelude.{◌↔◌}
use Rattle.meaning.specs.Tables.{is_there}
use Rattle.token_scanner.specs.declared.token.Mark.{Mark}
use Rattle.token_scanner.specs.declared.token.Mark.TheVariants as mark
use Rattle.token_scanner.specs.declared.scanning.Class.TheVariants as class
use Rattle.token_scanner.specs.Words.{Word, Name, Number, Sign, Bad, for_some, the_name}
use Rattle.token_scanner.specs.Scanning.{is_letter, is_digit, belongs, front_len, keyword_of, name_of, decimal, number_of, followed, longer, single_of, mark_of, word_at}
use Rattle.input_tables.specs.Names.{is_name, is_name_byte, are_name_bytes, is_among, is_keyword}
use Rattle.spawn_checker.specs.Scanned.{scanned}

-- ---- keywords

abbrev marks : List (List ℕ × Mark)
marks =
    (codes "reducer", mark.Reducer) ∷ (codes "memo", mark.Memo) ∷ (codes "proc", mark.Proc) ∷ (codes "call", mark.Call) ∷ (codes "spawn", mark.Spawn) ∷ (codes "sync", mark.Sync) ∷ (codes "update", mark.Update) ∷ (codes "if", mark.If)
    ∷ (codes "else", mark.Else) ∷ (codes "cilk_for", mark.CilkFor) ∷ (codes "in", mark.In) ∷ (codes "grain", mark.Grain) ∷ (codes "return", mark.Return) ∷ (codes "read", mark.Read) ∷ (codes "has", mark.Has) ∷ (codes "limit", mark.Limit) ∷ (codes "sum", mark.Sum) ∷ []

-- the mark of a word among these
abbrev mark_in : List (List ℕ × Mark) → List ℕ → Option Mark
mark_in [] x = None
mark_in (k ∷ ks) x = if bytes_eq x k.0 then Some k.1 else mark_in ks x

in_marks : (ks : List (List ℕ × Mark)) (x : List ℕ) → is_there (mark_in ks x) ≡ is_among x (map (λ k. k.0) ks)
in_marks [] x = refl
in_marks (k ∷ ks) x =
    elim (bytes_eq x k.0) as (λ c. is_there (if c then Some k.1 else mark_in ks x) ≡ cond c true (is_among x (map (λ k. k.0) ks))) [
      | true ↦ refl
      | false ↦ in_marks ks x
    ]

keyword_is : (x : List ℕ) → is_there (keyword_of x) ≡ is_keyword x
unfolding keyword_of is_keyword
keyword_is x = in_marks marks x

-- ---- words that are no names

-- the first mark whose test passes
abbrev first_mark : List (Bool × Mark) → Word
first_mark [] = Bad
first_mark (t ∷ ts) = if t.0 then Sign t.1 else first_mark ts

mark_is_no_name : (ts : List (Bool × Mark)) → the_name (first_mark ts) ≡ None
mark_is_no_name [] = refl
mark_is_no_name (t ∷ ts) =
    elim t.0 as (λ c. the_name (if c then Sign t.1 else first_mark ts) ≡ None) [
      | true ↦ refl
      | false ↦ mark_is_no_name ts
    ]

single_no_name : (b : ℕ) → the_name (single_of b) ≡ None
unfolding single_of
single_no_name b = mark_is_no_name (
    (b == 123, mark.OpenBrace) ∷ (b == 125, mark.CloseBrace) ∷ (b == 40, mark.OpenParen) ∷ (b == 41, mark.CloseParen) ∷ (b == 91, mark.OpenBracket) ∷ (b == 93, mark.CloseBracket) ∷ (b == 58, mark.Colon)
    ∷ (b == 59, mark.Semicolon) ∷ (b == 44, mark.Comma) ∷ (b == 43, mark.Plus) ∷ (b == 45, mark.Minus) ∷ (b == 42, mark.Star) ∷ (b == 47, mark.Slash) ∷ (b == 37, mark.Percent) ∷ []
    )

no_name : (c : Bool) (v w : Word) → the_name v ≡ None → the_name w ≡ None → the_name (if c then v else w) ≡ None
no_name true v w e f = e
no_name false v w e f = f

no_longer : (c : Bool) (v w : Word) → the_name v ≡ None → the_name w ≡ None → the_name (longer c v w).0 ≡ None
no_longer true v w e f = e
no_longer false v w e f = f

-- the first word whose test passes, and else the last one
abbrev first_word : List (Bool × (Word × ℕ)) → Word × ℕ → Word × ℕ
first_word [] last = last
first_word (t ∷ ts) last = if t.0 then t.1 else first_word ts last

abbrev AreNoNames : List (Bool × (Word × ℕ)) → Type 0
AreNoNames [] = Unit {0}
AreNoNames (t ∷ ts) = (the_name t.1.0 ≡ None) × AreNoNames ts

word_is_no_name : (ts : List (Bool × (Word × ℕ))) (last : Word × ℕ) → AreNoNames ts → the_name last.0 ≡ None → the_name (first_word ts last).0 ≡ None
word_is_no_name [] last none e = e
word_is_no_name (t ∷ ts) last none e =
    elim t.0 as (λ c. the_name (if c then t.1 else first_word ts last).0 ≡ None) [
      | true ↦ none.0
      | false ↦ word_is_no_name ts last none.1 e
    ]

mark_no_name : (b : ℕ) (bs : List ℕ) → the_name (mark_of b bs).0 ≡ None
unfolding mark_of
mark_no_name b bs =
    word_is_no_name
    ((b == 46, longer (followed 46 bs) (Sign mark.Range) (Sign mark.Dot)) ∷ (b == 61, longer (followed 61 bs) (Sign mark.Equal) (Sign mark.Assign)) ∷ (b == 33, longer (followed 61 bs) (Sign mark.Unequal) Bad)
    ∷ (b == 60, longer (followed 61 bs) (Sign mark.AtMost) (Sign mark.Less)) ∷ (b == 62, longer (followed 61 bs) (Sign mark.AtLeast) (Sign mark.Greater)) ∷ [])
    (single_of b, 1) (
      no_longer (followed 46 bs) (Sign mark.Range) (Sign mark.Dot) refl refl,
      (
        no_longer (followed 61 bs) (Sign mark.Equal) (Sign mark.Assign) refl refl,
        (
          no_longer (followed 61 bs) (Sign mark.Unequal) Bad refl refl,
          (no_longer (followed 61 bs) (Sign mark.AtMost) (Sign mark.Less) refl refl, (no_longer (followed 61 bs) (Sign mark.AtLeast) (Sign mark.Greater) refl refl, tt)),
        ),
      ),
    )
    (single_no_name b)

number_no_name : (ds : List ℕ) → the_name (number_of ds) ≡ None
unfolding number_of
number_no_name ds = no_name (nat_lt 9223372036854775807 (decimal 0 ds)) Bad (Number (pos (decimal 0 ds))) refl refl

-- ---- names

by_length : (n : ℕ) (b : Bool) → nat_le n 32 ≡ b → nat_lt 32 n ≡ not b
by_length n true e = false_from_ne_true (nat_lt 32 n) (λ t. let h = leb-true n 32 e in let k = ltb-true 32 n t in omega (arith, h, k))
by_length n false e = let h = leb-false n 32 e in lt-ltb 32 n (omega (arith, h))

over_or_not : (n : ℕ) → nat_lt 32 n ≡ not (nat_le n 32)
over_or_not n = by_length n (nat_le n 32) refl

name_if : (x : List ℕ) (c : Bool) (o : Option Mark) → the_name (if c then Bad else for_some o (Name x) (λ m. Sign m)) ≡ cond (not c && not (is_there o)) (Some x) None
name_if x true o = refl
name_if x false None = refl
name_if x false (Some m) = refl

twice_not : (b : Bool) → not (not b) ≡ b
twice_not true = refl
twice_not false = refl

name_is : (x : List ℕ) → the_name (name_of x) ≡ cond (nat_le (length x) 32 && not (is_keyword x)) (Some x) None
name_is x =
    name_if x (nat_lt 32 (length x)) (keyword_of x)
    ∙ ap (λ (b : Bool). cond (not b && not (is_there (keyword_of x))) (Some x) None) (over_or_not (length x))
    ∙ ap (λ (b : Bool). cond (b && not (is_there (keyword_of x))) (Some x) None) (twice_not (nat_le (length x) 32))
    ∙ ap (λ (b : Bool). cond (nat_le (length x) 32 && not b) (Some x) None) (keyword_is x)

-- the bytes of a name at the front
abbrev front : List ℕ → List ℕ
front bs = take (front_len (belongs class.InName) bs) bs

front_more : (b : ℕ) (bs : List ℕ) (c : Bool) → (are_name_bytes bs ≡ true → front bs ≡ bs) → (c && are_name_bytes bs) ≡ true → take (if c then suc (front_len (belongs class.InName) bs) else 0) (b ∷ bs) ≡ b ∷ bs
front_more b bs true h e = ap (λ (xs : List ℕ). b ∷ xs) (h e)
front_more b bs false h e = absurd cc

front_whole : (bs : List ℕ) → are_name_bytes bs ≡ true → front bs ≡ bs
front_whole [] e = refl
front_whole (b ∷ bs) e = front_more b bs (is_name_byte b) (front_whole bs) e

whole_more : (b : ℕ) (bs : List ℕ) (c : Bool) → (front bs ≡ bs → are_name_bytes bs ≡ true) → take (if c then suc (front_len (belongs class.InName) bs) else 0) (b ∷ bs) ≡ b ∷ bs → (c && are_name_bytes bs) ≡ true
whole_more b bs true h e = h (cc)
whole_more b bs false h e = absurd cc

whole_front : (bs : List ℕ) → front bs ≡ bs → are_name_bytes bs ≡ true
whole_front [] e = refl
whole_front (b ∷ bs) e = whole_more b bs (is_name_byte b) (whole_front bs) e

-- ---- both

word_if : (c d : Bool) (t u : List ℕ) (k j : ℕ) (m : Word × ℕ) → the_name m.0 ≡ None → the_name (if c then (name_of t, k) else (if d then (number_of u, j) else m)).0 ≡ cond c (the_name (name_of t)) None
word_if true d t u k j m e = refl
word_if false true t u k j m e = number_no_name u
word_if false false t u k j m e = e

scanned_is : (b : ℕ) (bs : List ℕ) → scanned (b ∷ bs) ≡ cond (is_letter b) (cond (nat_le (length (front (b ∷ bs))) 32 && not (is_keyword (front (b ∷ bs)))) (Some (front (b ∷ bs))) None) None
unfolding word_at
scanned_is b bs =
    word_if (is_letter b) (is_digit b) (front (b ∷ bs)) (take (front_len (belongs class.InNumber) (b ∷ bs)) (b ∷ bs)) (front_len (belongs class.InName) (b ∷ bs)) (front_len (belongs class.InNumber) (b ∷ bs)) (mark_of b (b ∷ bs)) (mark_no_name b (b ∷ bs))
    ∙ ap (λ (o : Option (List ℕ)). cond (is_letter b) o None) (name_is (front (b ∷ bs)))

fits_then : (x y : List ℕ) (c : Bool) (e g : List ℕ → Bool) → y ≡ x → (c && g x) ≡ true → cond c (cond (g y) (Some y) None) None ≡ Some x
fits_then x y true e g is h = rw (is, h) refl
fits_then x y false e g is h = absurd cc

-- a name by the rule on tables
abbrev short : List ℕ → Bool
short x = nat_le (length x) 32 && not (is_keyword x)

parted : (a b c d : Bool) → (a && b && c && d) ≡ true → (b ≡ true) × ((a && (c && d)) ≡ true)
parted true true c d e = (refl, e)
parted true false c d e = absurd cc
parted false b c d e = absurd cc

joined : (a b c d : Bool) → b ≡ true → (a && (c && d)) ≡ true → (a && b && c && d) ≡ true
joined true true c d e f = f
joined true false c d e f = absurd cc
joined false b c d e f = absurd cc

found_then : (x y : List ℕ) (c d : Bool) → cond c (cond d (Some y) None) None ≡ Some x → (y ≡ x) × ((c && d) ≡ true)
found_then x y true true e = (cc, refl)
found_then x y true false e = absurd cc
found_then x y false d e = absurd cc

pub names_agree : (x : List ℕ) → (is_name x ≡ true) ↔ (scanned x ≡ Some x)
names_agree [] = (λ e. absurd cc, λ e. absurd cc)
names_agree (b ∷ bs) =
    let x = b ∷ bs in (
      λ e.
          let parts = parted (is_letter b) (are_name_bytes x) (nat_le (length x) 32) (not (is_keyword x)) e in
          scanned_is b bs ∙ fits_then x (front x) (is_letter b) short short (front_whole x parts.0) parts.1,
      λ e.
          let found = found_then x (front x) (is_letter b) (short (front x)) (sym (scanned_is b bs) ∙ e) in
          joined (is_letter b) (are_name_bytes x) (nat_le (length x) 32) (not (is_keyword x)) (whole_front x found.0) (ap (λ (y : List ℕ). is_letter b && short y) (sym found.0) ∙ found.1),
    )
