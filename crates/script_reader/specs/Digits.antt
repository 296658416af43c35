-- Digits behind a value.
use Rattle.std.specs.Prelude.{ℕ, ◌+◌, ◌*◌, cond, ◌&&◌, nat_le, ℤ, List, ◌++◌, Option, Some, None, option_map}
use Rattle.std.specs.Char.{digit_value}
use Rattle.std.specs.Str.Parse.{digits_value_after}
use Rattle.meaning.specs.Every.{every}
use Rattle.meaning.specs.Script.{is_digit, numbers_of}

-- what a value becomes by one more digit, if it stays within the limit
abbrev pub with_digit : ℕ → ℕ → ℕ → Option ℕ
with_digit limit value b = cond (is_digit b && nat_le (value * 10 + digit_value b) limit) (Some (value * 10 + digit_value b)) None

-- what it becomes by all digits behind it
abbrev pub more_digits : ℕ → ℕ → List ℕ → Option ℕ
more_digits limit value digits =
    cond (every is_digit digits && nat_le (digits_value_after 10 value digits) limit) (Some (digits_value_after 10 value digits)) None

-- numbers, and those of the words behind them, if each of these is one
abbrev pub more_numbers : List ℤ → List (List ℕ) → Option (List ℤ)
more_numbers found words = option_map (λ values. found ++ values) (numbers_of words)
