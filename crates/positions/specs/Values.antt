-- Values and readings that are the same, decided by their parts, and each reading once.
use Rattle.std.specs.Prelude.{nat_eq, ℤ, Bool, true, false, cond, ◌&&◌, List, [], ◌∷◌, ◌++◌, Option, Some, None}
use Rattle.std.specs.List.{list_any}
use Rattle.std.specs.Ordering.{int_eq}
use Rattle.std.specs.Cmp.Lexicographic.{pointwise}
use Rattle.monoid_laws.specs.Worth.{Worth, number, items, best, line, amounts, element}
use Rattle.evaluation.specs.declared.note.Note.{Note}
use Rattle.record_theory.specs.Same.{same_note}

abbrev pub same_pair : ℤ × ℤ → ℤ × ℤ → Bool
same_pair a b = int_eq a.0 b.0 && int_eq a.1 b.1

abbrev pub same_best : Option (ℤ × ℤ) → Option (ℤ × ℤ) → Bool
same_best None None = true
same_best (Some a) (Some b) = same_pair a b
same_best _ _ = false

abbrev pub same_worth : Worth → Worth → Bool
same_worth (number a) (number b) = int_eq a b
same_worth (items xs) (items ys) = pointwise int_eq xs ys
same_worth (best a) (best b) = same_best a b
same_worth (line a b) (line c d) = int_eq a c && int_eq b d
same_worth (amounts xs) (amounts ys) = pointwise same_pair xs ys
same_worth (element a) (element b) = nat_eq a b
same_worth _ _ = false

-- a reading among those that are there
abbrev pub put_note : List Note → Note → List Note
put_note seen n = cond (list_any (same_note n) seen) seen (seen ++ n ∷ [])

abbrev pub once_behind : List Note → List Note → List Note
once_behind seen [] = seen
once_behind seen (n ∷ ns) = once_behind (put_note seen n) ns

-- each reading once
abbrev pub once : List Note → List Note
once ns = once_behind [] ns
