-- Tokens that a text can have.
use Rattle.std.specs.Prelude.{◌≡◌, ℕ, ◌≤◌, pos, negsuc, List, [], ◌∷◌, length, map, Bool, true, false, None}
use Rattle.token_scanner.specs.declared.scanning.Class.TheVariants as class
use Rattle.token_scanner.specs.Words.{Word, Words, Name, Number, Sign, Bad, Over}
use Rattle.token_scanner.specs.Scanning.{is_letter, belongs, front_len, keyword_of}

abbrev pub starts_letter : List ℕ → Bool
starts_letter [] = false
starts_letter (b ∷ bs) = is_letter b

-- a letter and then letters, digits and `_`, at most 32 bytes, and no keyword
pub record IsName (x : List ℕ) : Type 0 where
  pub begins : starts_letter x ≡ true
  pub goes_on : front_len (belongs class.InName) x ≡ length x
  pub short : length x ≤ 32
  pub no_keyword : keyword_of x ≡ None

-- a number has no sign and is in its range
abbrev pub IsToken : Word → Type 0
IsToken (Name x) = IsName x
IsToken (Number (pos n)) = n ≤ 9223372036854775807
IsToken (Number (negsuc n)) = ⊥
IsToken (Sign m) = Unit {0}
IsToken Bad = ⊥
IsToken Over = ⊥

abbrev pub AllTokens : List Word → Type 0
AllTokens [] = Unit {0}
AllTokens (w ∷ ws) = IsToken w × AllTokens ws

-- tokens without their lines
abbrev pub bare : Words → List Word
bare ts = map (λ t. t.0) ts
