-- Reading tokens from left to right: a value and the tokens after it, or the tokens from the first on that can't follow.
use Rattle.std.specs.Prelude.{◌≡◌, ℕ, List, Option, Some, None, Result, Ok, Err, length, nat_le, if◌then◌else◌, ◌&&◌}
use Rattle.meaning.specs.declared.tree.Operator.{Operator}
use Rattle.meaning.specs.declared.tree.Operator.TheVariants as op
use Rattle.meaning.specs.declared.tree.Way.{Way}
use Rattle.meaning.specs.declared.tree.Way.TheVariants as way
use Rattle.token_scanner.specs.declared.token.Mark.{Mark}
use Rattle.token_scanner.specs.declared.token.Mark.TheVariants as mark
use Rattle.token_scanner.specs.declared.token.Mark.TheVariants.{Plus, Minus, Star, Slash, Percent, Call, Spawn}
use Rattle.token_readers.specs.declared.fault.ParseError.{ParseError}
use Rattle.token_readers.specs.declared.fault.ParseError.TheVariants as errors
use Rattle.token_scanner.specs.Words.{Words, for_some, starts, starts_name, rest, front_name, front_count}

abbrev pub Read : Type 0 → Type 0
Read A = Result (A × Words) Words

infixl 10 ◌>>=◌
abbrev pub ◌>>=◌ : {A B : Type 0} → Result A Words → (A → Result B Words) → Result B Words
(Ok x) >>= f = f x
(Err e) >>= f = Err e

-- how many tokens are left from the one that can't follow
abbrev pub stuck_before : {Y : Type 0} → Result Y Words → Option ℕ
stuck_before (Ok x) = None
stuck_before (Err ts) = Some (length ts)

-- What a function returned, seen by view, is what reading gives, unless memory ran out.
abbrev pub Fails : {Y : Type 0} → ParseError → Result Y Words → Type 0
Fails errors.Memory read = Unit {0}
Fails (errors.Stuck n) read = stuck_before read ≡ Some n

abbrev pub Gives : {X Y : Type 0} → (X → Y) → Result X ParseError → Result Y Words → Type 0
Gives view (Ok x) read = read ≡ Ok (view x)
Gives view (Err e) read = Fails e read

abbrev pub or_stuck : {A : Type 0} → Words → Option A → Read A
or_stuck ts None = Err ts
or_stuck ts (Some x) = Ok (x, rest ts)

unfoldable pub mark_at : Mark → Words → Result Words Words
mark_at m ts = if starts m ts then Ok (rest ts) else Err ts

unfoldable pub name_at : Words → Read (List ℕ)
name_at ts = or_stuck ts (front_name ts)

-- a number from low to high
abbrev pub count_within : ℕ → ℕ → ℕ → Option ℕ
count_within low high n = if nat_le low n && nat_le n high then Some n else None

unfoldable pub within_of : ℕ → ℕ → Words → Option ℕ
within_of low high ts = for_some (front_count ts) None (count_within low high)

unfoldable pub within_at : ℕ → ℕ → Words → Read ℕ
within_at low high ts = or_stuck ts (within_of low high ts)

-- the operation that the first token stands for
unfoldable pub comparison : Words → Option Operator
comparison ts =
    if starts mark.Equal ts then Some op.Equal
    else (if starts mark.Unequal ts then Some op.Unequal
    else (if starts mark.Less ts then Some op.Less
    else (if starts mark.AtMost ts then Some op.AtMost
    else (if starts mark.Greater ts then Some op.Greater
    else (if starts mark.AtLeast ts then Some op.AtLeast
    else None)))))

unfoldable pub additive : Words → Option Operator
additive ts = if starts Plus ts then Some op.Add else (if starts Minus ts then Some op.Subtract else None)

unfoldable pub multiplicative : Words → Option Operator
multiplicative ts =
    if starts Star ts then Some op.Multiply
    else (if starts Slash ts then Some op.Divide
    else (if starts Percent ts then Some op.Remainder
    else None))

unfoldable pub way_of : Words → Option Way
way_of ts = if starts Call ts then Some way.Call else (if starts Spawn ts then Some way.Spawn else None)

-- a word that is no keyword
unfoldable pub word_at : List ℕ → Words → Result Words Words
word_at x ts = if starts_name x ts then Ok (rest ts) else Err ts
