-- The name with which a text begins, as the scanner finds it.
use Rattle.std.specs.Prelude.{ℕ, List, [], ◌∷◌, Option, None}
use Rattle.token_scanner.specs.Words.{the_name}
use Rattle.token_scanner.specs.Scanning.{word_at}

abbrev pub scanned : List ℕ → Option (List ℕ)
scanned [] = None
scanned (b ∷ bs) = the_name (word_at b (b ∷ bs)).0
