-- The limits of a text, but for its length.
use Rattle.std.specs.Prelude.{ℕ}

-- how many parentheses and brackets may be open at once in an expression
abbrev pub most_open : ℕ
most_open = 64

-- how many levels an expression has at most
abbrev pub most_levels : ℕ
most_levels = 64

-- how many blocks may be nested in one another
abbrev pub most_nested : ℕ
most_nested = 32

-- how many parameters a procedure has at most
abbrev pub most_parameters : ℕ
most_parameters = 8

-- how many reducers a program has at most
abbrev pub most_reducers : ℕ
most_reducers = 16

-- how many numbers an initial value has at most
abbrev pub most_initial : ℕ
most_initial = 4096

-- the greatest number of a text
abbrev pub most_number : ℕ
most_number = 9223372036854775807

-- how many procedures a program has at most
abbrev pub most_procedures : ℕ
most_procedures = 256
