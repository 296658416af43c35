-- How tokens are written: one after the other, parted by a space or by an end of line.
use Rattle.std.specs.Prelude.{◌≡◌, ℕ, List, [], ◌∷◌, ◌++◌, Bool, true, false, if◌then◌else◌, codes, string_bytes}
use Rattle.std.specs.Fmt.{signed_decimal}
use Rattle.std.specs.Global.{Global}
use Rattle.std.specs.declared.string.String.{String}
use Rattle.token_scanner.specs.declared.token.Mark.{Mark}
use Rattle.token_scanner.specs.declared.token.Mark.TheVariants.{OpenBrace, CloseBrace, OpenParen, CloseParen, OpenBracket, CloseBracket}
use Rattle.token_scanner.specs.declared.token.Mark.TheVariants.{Colon, Semicolon, Comma, Dot, Range, Assign, Equal, Unequal, Less, AtMost}
use Rattle.token_scanner.specs.declared.token.Mark.TheVariants.{Greater, AtLeast, Plus, Minus, Star, Slash, Percent, Reducer, Memo, Proc}
use Rattle.token_scanner.specs.declared.token.Mark.TheVariants.{Call, Spawn, Sync, Update, If, Else, CilkFor, In, Grain, Return, Read, Has}
use Rattle.token_scanner.specs.declared.token.Mark.TheVariants.{Limit, Sum}
use Rattle.token_scanner.specs.Words.{Word, Name, Number, Sign, Bad, Over}

abbrev pub mark_text : Mark → List ℕ
mark_text OpenBrace = codes "{"
mark_text CloseBrace = codes "}"
mark_text OpenParen = codes "("
mark_text CloseParen = codes ")"
mark_text OpenBracket = codes "["
mark_text CloseBracket = codes "]"
mark_text Colon = codes ":"
mark_text Semicolon = codes ";"
mark_text Comma = codes ","
mark_text Dot = codes "."
mark_text Range = codes ".."
mark_text Assign = codes "="
mark_text Equal = codes "=="
mark_text Unequal = codes "!="
mark_text Less = codes "<"
mark_text AtMost = codes "<="
mark_text Greater = codes ">"
mark_text AtLeast = codes ">="
mark_text Plus = codes "+"
mark_text Minus = codes "-"
mark_text Star = codes "*"
mark_text Slash = codes "/"
mark_text Percent = codes "%"
mark_text Reducer = codes "reducer"
mark_text Memo = codes "memo"
mark_text Proc = codes "proc"
mark_text Call = codes "call"
mark_text Spawn = codes "spawn"
mark_text Sync = codes "sync"
mark_text Update = codes "update"
mark_text If = codes "if"
mark_text Else = codes "else"
mark_text CilkFor = codes "cilk_for"
mark_text In = codes "in"
mark_text Grain = codes "grain"
mark_text Return = codes "return"
mark_text Read = codes "read"
mark_text Has = codes "has"
mark_text Limit = codes "limit"
mark_text Sum = codes "sum"

abbrev pub word_text : Word → List ℕ
word_text (Name x) = x
word_text (Number n) = signed_decimal n
word_text (Sign m) = mark_text m
word_text Bad = []
word_text Over = []

abbrev pub is_else : Word → Bool
is_else (Sign Else) = true
is_else w = false

abbrev pub starts_else : List Word → Bool
starts_else [] = false
starts_else (w ∷ ws) = is_else w

-- what stands between a token and those after it: an end of line after `;`, `{` and `}`, save between `}` and `else`, and a space elsewhere
abbrev pub gap : Word → List Word → ℕ
gap (Sign Semicolon) ws = 10
gap (Sign OpenBrace) ws = 10
gap (Sign CloseBrace) ws = if starts_else ws then 32 else 10
gap w ws = 32

-- the text of tokens
unfoldable pub written : List Word → List ℕ
written [] = []
written (w ∷ ws) = word_text w ++ gap w ws ∷ written ws

-- What stands in a text already, and then the tokens of a part and others, is what stands there afterwards and then the others.
abbrev pub Puts : List ℕ → List ℕ → (List Word → List Word) → Type 0
Puts old new part = (rest : List Word) → old ++ written (part rest) ≡ new ++ written rest

-- A part that may end with `}` is put so in front of tokens that don't begin with `else`.
abbrev pub PutsBlock : List ℕ → List ℕ → (List Word → List Word) → Type 0
PutsBlock old new part = (rest : List Word) → starts_else rest ≡ false → old ++ written (part rest) ≡ new ++ written rest

-- A text as code has it grows by a part.
abbrev pub Grows : String Global → String Global → (List Word → List Word) → Type 0
Grows old new part = Puts (string_bytes old) (string_bytes new) part

abbrev pub GrowsByBlock : String Global → String Global → (List Word → List Word) → Type 0
GrowsByBlock old new part = PutsBlock (string_bytes old) (string_bytes new) part
