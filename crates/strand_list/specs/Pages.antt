-- Lists of strands in code, as the definitions have them.
use Rattle.std.specs.Prelude.{ℕ, suc, Bool, false, cond, ◌&&◌, ◌||◌, List, [], ◌∷◌, map, Option, Some, None}
use Rattle.std.specs.Str.{bytes_eq}
use Rattle.meaning.specs.Outcome.{Place}
use Rattle.meaning.specs.Strands.{Line, done, waits, holds_by}
use Rattle.strand_theory.proofs.Books.{NoneAt}
use Rattle.strand_lines.specs.Lines.{begins_with}
use Rattle.numbered_runs.specs.Named.{line}
use Rattle.numbered_runs.specs.declared.step.StrandLine.{StrandLine}

-- lines of code, as the definitions have them
abbrev pub shown : List StrandLine → List Line
shown lines = map line lines

-- the number of the first line of a place; that of no line where there is none
abbrev pub position : Place → List Line → ℕ
position p [] = 0
position p (l ∷ ls) = cond (bytes_eq l.0 p) 0 (suc (position p ls))

-- the lines without the first one of a place
abbrev pub removes : List Line → Place → List Line
removes [] p = []
removes (l ∷ ls) p = cond (bytes_eq l.0 p) ls (l ∷ removes ls p)

-- no two lines are at one place
abbrev pub Apart : List Line → Type 0
Apart [] = Unit {0}
Apart (l ∷ ls) = NoneAt l.0 ls × Apart ls

-- two lines are at these places, and may be folded
abbrev pub is_pair : Place → Place → Line → Line → Bool
is_pair l r (p, s) (q, t) = bytes_eq p l && bytes_eq q r && done s && waits t

abbrev pub begins_pair : Place → Place → List Line → Bool
begins_pair l r (x ∷ y ∷ rest) = is_pair l r x y
begins_pair l r _ = false

-- the right place stands directly behind the left one
abbrev pub are_neighbours : Place → Place → List Line → Bool
are_neighbours l r [] = false
are_neighbours l r (x ∷ rest) = begins_with l r (x ∷ rest) || are_neighbours l r rest

-- the place of the first strand that the worker holds
abbrev pub held_place : ℕ → List Line → Option Place
held_place w [] = None
held_place w (l ∷ ls) = cond (holds_by w l.1) (Some l.0) (held_place w ls)
