-- No text has the token that stands for one too many.
use Rattle.std.proofs.Common.{◌≡◌, false, List, [], ◌∷◌, refl}
use Rattle.token_scanner.specs.declared.token.Token.{Token}
use Rattle.token_scanner.specs.declared.token.Token.TheVariants as token
use Rattle.token_scanner.specs.declared.token.Placed.{Placed}
use Rattle.token_scanner.specs.Words.{word, words, starts_over, is_over}

real : (t : Token) → is_over (word t) ≡ false
real (token.Name x) = refl
real (token.Number n) = refl
real (token.Sign m) = refl
real token.Bad = refl

pub never_over : (ts : List Placed) → starts_over (words ts) ≡ false
never_over [] = refl
never_over (p ∷ ps) = real p.token
