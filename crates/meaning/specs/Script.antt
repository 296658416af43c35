-- The commands of a script: what its lines say.
use Rattle.std.specs.Prelude.{ℕ, ◌+◌, ◌==◌, ◌&&◌, ◌||◌, nat_le, ℤ, pos, neg_ℤ, Bool, true, false, cond, not, if◌then◌else◌, List, [], ◌∷◌}
use Rattle.std.specs.Prelude.{◌++◌, Option, Some, None, option_map, codes}
use Rattle.std.specs.List.{filter, slice_split}
use Rattle.std.specs.Option.{option_to_list}
use Rattle.std.specs.Str.{bytes_eq}
use Rattle.std.specs.Str.Parse.{digits_value}
use Rattle.meaning.specs.Tree.{Name}
use Rattle.meaning.specs.Every.{every}
use Rattle.meaning.specs.Edits.{Edit, Put, Delete, Define}

-- a command: a run, an edit, or a line that is none, refused by its number, counted from 1
pub data Command : Type 0 where
  Run : Command
  Change : Edit → Command
  Unknown : ℕ → Command

abbrev pub is_line_end : ℕ → Bool
is_line_end b = b == 10

-- a space or a tab
abbrev pub is_blank : ℕ → Bool
is_blank b = b == 32 || b == 9

-- a tab, or a byte that is shown
abbrev pub is_shown : ℕ → Bool
is_shown b = b == 9 || (nat_le 32 b && nat_le b 126)

abbrev pub is_filled : List ℕ → Bool
is_filled [] = false
is_filled (b ∷ bs) = true

-- the lines of a script; after the last line's end comes one that is empty
abbrev pub lines : List ℕ → List (List ℕ)
lines script = slice_split is_line_end script

abbrev pub words : List ℕ → List (List ℕ)
words line = filter is_filled (slice_split is_blank line)

-- a line whose first byte is `#`
abbrev pub is_comment : List ℕ → Bool
is_comment [] = false
is_comment (b ∷ bs) = b == 35

-- this word and no other
abbrev pub are_only : List ℕ → List (List ℕ) → Bool
are_only w [] = false
are_only w (v ∷ []) = bytes_eq v w
are_only w (v ∷ u ∷ rest) = false

-- ---- numbers

abbrev pub is_digit : ℕ → Bool
is_digit b = nat_le 48 b && nat_le b 57

-- one decimal digit or more, of a number up to this one
abbrev pub digits_up_to : ℕ → List ℕ → Option ℕ
digits_up_to limit digits = cond (is_filled digits && every is_digit digits && nat_le (digits_value 10 digits) limit) (Some (digits_value 10 digits)) None

-- an optional `-` and decimal digits, of a number of 64 bits
abbrev pub number_of : List ℕ → Option ℤ
number_of [] = None
number_of (b ∷ bs) =
    cond (b == 45) (option_map (λ n. neg_ℤ (pos n)) (digits_up_to 9223372036854775808 bs)) (option_map pos (digits_up_to 9223372036854775807 (b ∷ bs)))

-- a number in front of others, where all of them are there
abbrev pub with_first : Option ℤ → Option (List ℤ) → Option (List ℤ)
with_first (Some v) (Some vs) = Some (v ∷ vs)
with_first _ _ = None

-- the numbers of words, if each is one
abbrev pub numbers_of : List (List ℕ) → Option (List ℤ)
numbers_of [] = Some []
numbers_of (w ∷ ws) = with_first (number_of w) (numbers_of ws)

-- ---- edits

-- a put has at least one value
abbrev pub put_of : Name → Option ℤ → Option (List ℤ) → Option Edit
put_of t (Some row) (Some (v ∷ vs)) = Some (Put t row (v ∷ vs))
put_of t _ _ = None

-- a delete has nothing behind the row's number
abbrev pub delete_of : Name → Option ℤ → List (List ℕ) → Option Edit
delete_of t (Some row) [] = Some (Delete t row)
delete_of t _ _ = None

-- the edit of the words `put TABLE ROW V ..` or `del TABLE ROW`
abbrev pub edit_of : List (List ℕ) → Option Edit
edit_of (w ∷ t ∷ row ∷ rest) =
    cond (bytes_eq w (codes "put")) (put_of t (number_of row) (numbers_of rest)) (cond (bytes_eq w (codes "del")) (delete_of t (number_of row) rest) None)
edit_of _ = None

-- an edit, where the line of this number is one
abbrev pub edit_or_unknown : ℕ → Option Edit → Command
edit_or_unknown n None = Unknown n
edit_or_unknown n (Some e) = Change e

-- ---- commands

-- the command of these words, on a line of this number; no words are none
abbrev pub command_of : ℕ → List (List ℕ) → Option Command
command_of n [] = None
command_of n (w ∷ []) = Some (if bytes_eq w (codes "run") then Run else Unknown n)
command_of n (w ∷ v ∷ rest) = Some (edit_or_unknown n (edit_of (w ∷ v ∷ rest)))

-- outside a define: a comment is passed over, and any other line with a byte that isn't shown is no command
abbrev pub line_command : ℕ → List ℕ → Option Command
line_command n line = if is_comment line then None else cond (not (every is_shown line)) (Some (Unknown n)) (command_of n (words line))

abbrev mutual
  -- the commands of lines of which the first has this number
  pub commands_from : ℕ → List (List ℕ) → List Command
  commands_from n [] = []
  commands_from n (line ∷ rest) =
      cond (are_only (codes "define") (words line)) (define_from n [] (n + 1) rest) (option_to_list (line_command n line) ++ commands_from (n + 1) rest)

  -- the commands from within a define on, by the number of its line and its text so far: without an `end` that line is no command, and the script ends
  pub define_from : ℕ → List ℕ → ℕ → List (List ℕ) → List Command
  define_from begun text n [] = Unknown begun ∷ []
  define_from begun text n (line ∷ rest) =
      cond (are_only (codes "end") (words line)) (Change (Define text) ∷ commands_from (n + 1) rest) (define_from begun (text ++ line ++ 10 ∷ []) (n + 1) rest)

abbrev pub commands : List ℕ → List Command
commands script = commands_from 1 (lines script)
