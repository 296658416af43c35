-- The names that tables and columns may have, and the place of a name.
use Rattle.std.specs.Prelude.{ℕ, List, [], ◌∷◌, length, Bool, true, false, cond, not, ◌==◌, ◌||◌, ◌&&◌, nat_le, bytes_eq, codes}
use Rattle.meaning.specs.Tree.{Name}

abbrev pub is_lower : ℕ → Bool
is_lower b = nat_le 97 b && nat_le b 122

-- a name begins with a lower-case letter
abbrev pub begins_name : List ℕ → Bool
begins_name [] = false
begins_name (b ∷ bs) = is_lower b

-- a lower-case letter, a digit or `_`
abbrev pub is_name_byte : ℕ → Bool
is_name_byte b = is_lower b || (nat_le 48 b && nat_le b 57) || b == 95

abbrev pub are_name_bytes : List ℕ → Bool
are_name_bytes [] = true
are_name_bytes (b ∷ bs) = is_name_byte b && are_name_bytes bs

abbrev pub is_among : Name → List Name → Bool
is_among x [] = false
is_among x (y ∷ ys) = cond (bytes_eq x y) true (is_among x ys)

abbrev pub keywords : List Name
keywords =
    codes "reducer" ∷ codes "memo" ∷ codes "proc" ∷ codes "call" ∷ codes "spawn" ∷ codes "sync" ∷ codes "update" ∷ codes "if" ∷ codes "else" ∷ codes "cilk_for"
    ∷ codes "in" ∷ codes "grain" ∷ codes "return" ∷ codes "read" ∷ codes "has" ∷ codes "limit" ∷ codes "sum" ∷ []

unfoldable pub is_keyword : Name → Bool
is_keyword x = is_among x keywords

-- a name as programs write it, of at most 32 bytes
abbrev pub is_name : Name → Bool
is_name x = begins_name x && are_name_bytes x && nat_le (length x) 32 && not (is_keyword x)
