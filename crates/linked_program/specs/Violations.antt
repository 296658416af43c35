-- The order of violations, and the first of them.
use Rattle.std.specs.Prelude.{ℕ, Bool, true, false, cond, ◌==◌, ◌&&◌, ◌||◌, nat_lt, List, [], ◌∷◌, Option, Some, None}
use Rattle.linked_program.specs.declared.violation.Rule.{Rule}
use Rattle.linked_program.specs.declared.violation.Rule.TheVariants.{Unknown, Twice, Waiting, Arguments, Read, Update, Main, Table, Monoid, Initial}
use Rattle.linked_program.specs.declared.violation.Violation.{Violation}

abbrev pub number_of : Rule → ℕ
number_of Unknown = 1
number_of Twice = 2
number_of Waiting = 3
number_of Arguments = 4
number_of Read = 5
number_of Update = 6
number_of Main = 7
number_of Table = 8
number_of Monoid = 9
number_of Initial = 10

-- by declaration, then by line, then by rule
abbrev pub comes_before : Violation → Violation → Bool
comes_before v w =
    nat_lt v.declaration w.declaration || ((v.declaration == w.declaration)
    && (nat_lt v.line w.line || ((v.line == w.line) && nat_lt (number_of v.rule) (number_of w.rule))))

abbrev pub earlier : Option Violation → Violation → Violation
earlier None v = v
earlier (Some w) v = cond (comes_before v w) v w

-- the first of these and of the one so far
abbrev pub noted : Option Violation → List Violation → Option Violation
noted first [] = first
noted first (v ∷ vs) = noted (Some (earlier first v)) vs

abbrev pub first_of : List Violation → Option Violation
first_of vs = noted None vs

-- a violation of each of these rules at a place
abbrev pub at : ℕ → ℕ → List Rule → List Violation
at declaration line [] = []
at declaration line (r ∷ rules) = record { declaration = declaration; line = line; rule = r } ∷ at declaration line rules

-- the rule, where it is broken
abbrev pub when : Bool → Rule → List Rule
when true rule = rule ∷ []
when false rule = []
