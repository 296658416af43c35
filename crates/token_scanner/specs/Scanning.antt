-- A text's tokens.
use Rattle.std.specs.Prelude.{ℕ, zero, suc, ◌+◌, ◌-◌, ◌*◌, List, [], ◌∷◌, length, take, drop, Bool, true, false, ◌==◌, ◌||◌, ◌&&◌, nat_lt}
use Rattle.std.specs.Prelude.{nat_le, Option, Some, None, if◌then◌else◌, bytes_eq, codes, pos}
use Rattle.token_scanner.specs.declared.token.Mark.{Mark}
use Rattle.token_scanner.specs.declared.token.Mark.TheVariants as mark
use Rattle.token_scanner.specs.declared.scanning.Class.{Class}
use Rattle.token_scanner.specs.declared.scanning.Class.TheVariants as class
use Rattle.token_scanner.specs.Words.{Word, Words, Name, Number, Sign, Bad, for_some}

-- the greatest length of a text
abbrev pub longest_text : ℕ
longest_text = 1048576

abbrev pub is_letter : ℕ → Bool
is_letter b = nat_le 97 b && nat_le b 122

abbrev pub is_digit : ℕ → Bool
is_digit b = nat_le 48 b && nat_le b 57

abbrev pub is_space : ℕ → Bool
is_space b = b == 32 || b == 9

-- letters, digits and `_` of a name; digits of a number; what a comment may hold
abbrev pub belongs : Class → ℕ → Bool
belongs class.InName b = is_letter b || is_digit b || b == 95
belongs class.InNumber b = is_digit b
belongs class.InComment b = b == 9 || (nat_le 32 b && nat_le b 126)

-- how many at the front pass the test
abbrev pub front_len : (ℕ → Bool) → List ℕ → ℕ
front_len p [] = 0
front_len p (b ∷ bs) = if p b then suc (front_len p bs) else 0

unfoldable pub keyword_of : List ℕ → Option Mark
keyword_of x =
    if bytes_eq x (codes "reducer") then Some mark.Reducer
    else (if bytes_eq x (codes "memo") then Some mark.Memo
    else (if bytes_eq x (codes "proc") then Some mark.Proc
    else (if bytes_eq x (codes "call") then Some mark.Call
    else (if bytes_eq x (codes "spawn") then Some mark.Spawn
    else (if bytes_eq x (codes "sync") then Some mark.Sync
    else (if bytes_eq x (codes "update") then Some mark.Update
    else (if bytes_eq x (codes "if") then Some mark.If
    else (if bytes_eq x (codes "else") then Some mark.Else
    else (if bytes_eq x (codes "cilk_for") then Some mark.CilkFor
    else (if bytes_eq x (codes "in") then Some mark.In
    else (if bytes_eq x (codes "grain") then Some mark.Grain
    else (if bytes_eq x (codes "return") then Some mark.Return
    else (if bytes_eq x (codes "read") then Some mark.Read
    else (if bytes_eq x (codes "has") then Some mark.Has
    else (if bytes_eq x (codes "limit") then Some mark.Limit
    else (if bytes_eq x (codes "sum") then Some mark.Sum
    else None))))))))))))))))

-- a keyword, or a name of at most 32 bytes
abbrev pub name_of : List ℕ → Word
name_of x = if nat_lt 32 (length x) then Bad else for_some (keyword_of x) (Name x) (λ m. Sign m)

-- the value of decimal digits behind those whose value is so much
abbrev pub decimal : ℕ → List ℕ → ℕ
decimal n [] = n
decimal n (d ∷ ds) = decimal (n * 10 + (d - 48)) ds

-- a number of at most 9223372036854775807
unfoldable pub number_of : List ℕ → Word
number_of ds = if nat_lt 9223372036854775807 (decimal 0 ds) then Bad else Number (pos (decimal 0 ds))

-- whether the second byte is this one
abbrev pub followed : ℕ → List ℕ → Bool
followed c [] = false
followed c (b ∷ []) = false
followed c (b ∷ d ∷ bs) = d == c

-- the mark of two bytes, where both are there
abbrev pub longer : Bool → Word → Word → Word × ℕ
longer true long short = (long, 2)
longer false long short = (short, 1)

unfoldable pub single_of : ℕ → Word
single_of b =
    if b == 123 then Sign mark.OpenBrace
    else (if b == 125 then Sign mark.CloseBrace
    else (if b == 40 then Sign mark.OpenParen
    else (if b == 41 then Sign mark.CloseParen
    else (if b == 91 then Sign mark.OpenBracket
    else (if b == 93 then Sign mark.CloseBracket
    else (if b == 58 then Sign mark.Colon
    else (if b == 59 then Sign mark.Semicolon
    else (if b == 44 then Sign mark.Comma
    else (if b == 43 then Sign mark.Plus
    else (if b == 45 then Sign mark.Minus
    else (if b == 42 then Sign mark.Star
    else (if b == 47 then Sign mark.Slash
    else (if b == 37 then Sign mark.Percent
    else Bad)))))))))))))

-- the mark that begins with b, and how many bytes it takes
unfoldable pub mark_of : ℕ → List ℕ → Word × ℕ
mark_of b bs =
    if b == 46 then longer (followed 46 bs) (Sign mark.Range) (Sign mark.Dot)
    else (if b == 61 then longer (followed 61 bs) (Sign mark.Equal) (Sign mark.Assign)
    else (if b == 33 then longer (followed 61 bs) (Sign mark.Unequal) Bad
    else (if b == 60 then longer (followed 61 bs) (Sign mark.AtMost) (Sign mark.Less)
    else (if b == 62 then longer (followed 61 bs) (Sign mark.AtLeast) (Sign mark.Greater)
    else (single_of b, 1)))))

-- the token that begins with b, the first of bs, and how many bytes it takes
unfoldable pub word_at : ℕ → List ℕ → Word × ℕ
word_at b bs =
    if is_letter b
    then (name_of (take (front_len (belongs class.InName) bs) bs), front_len (belongs class.InName) bs)
    else (if is_digit b
    then (number_of (take (front_len (belongs class.InNumber) bs) bs), front_len (belongs class.InNumber) bs)
    else mark_of b bs)

-- In at most so many turns, from a line on. A comment ends with its line; a byte that no text has is a token there too.
unfoldable pub scan : ℕ → ℕ → List ℕ → Words
scan zero line bs = []
scan (suc k) line [] = []
scan (suc k) line (b ∷ bs) =
    if b == 10 then scan k (line + 1) bs
    else (if is_space b then scan k line bs
    else (if b == 35 then scan k line (drop (front_len (belongs class.InComment) (b ∷ bs)) (b ∷ bs))
    else ((word_at b (b ∷ bs)).0, line) ∷ scan k line (drop (word_at b (b ∷ bs)).1 (b ∷ bs))))

abbrev pub tokens_of : List ℕ → Words
tokens_of text = scan (length text) 1 text

-- how many lines end in a text
abbrev pub line_ends : List ℕ → ℕ
line_ends [] = 0
line_ends (b ∷ bs) = if b == 10 then suc (line_ends bs) else line_ends bs
