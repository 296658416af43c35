-- What the edits give on small tables, by computation.
use Rattle.std.specs.Prelude.{◌≡◌, ℕ, ℤ, pos, List, [], ◌∷◌, Ok, Err}
use Rattle.std.proofs.Common.{refl}
use Rattle.meaning.specs.Edits.{Standing, UnknownTable, WrongColumns, RowRange, NoRow, Exhausted, after_put, after_delete, most}
use Rattle.meaning.proofs.Samples.{sales, row, n_sales, n_seen, lines}

abbrev standing : ℕ → List (ℤ × List ℤ) → Standing
standing n rows = record { program = record { tree = lines; revisions = []; counter = 0 }; lines = []; tables = sales rows; edits = n }

put_there : after_put (standing 0 (row 1 2 5 ∷ row 2 3 7 ∷ row 3 1 100 ∷ [])) n_sales (pos 2) (pos 4 ∷ pos 7 ∷ []) ≡ Ok (standing 1 (row 1 2 5 ∷ row 2 4 7 ∷ row 3 1 100 ∷ []))
put_there = refl

put_between : after_put (standing 0 (row 1 2 5 ∷ row 3 1 100 ∷ [])) n_sales (pos 2) (pos 3 ∷ pos 7 ∷ []) ≡ Ok (standing 1 (row 1 2 5 ∷ row 2 3 7 ∷ row 3 1 100 ∷ []))
put_between = refl

put_unknown : after_put (standing 0 []) n_seen (pos 1) (pos 2 ∷ []) ≡ Err UnknownTable
put_unknown = refl

put_short : after_put (standing 0 []) n_sales (pos 1) (pos 2 ∷ []) ≡ Err WrongColumns
put_short = refl

put_far : after_put (standing 0 []) n_sales (pos 2147483648) (pos 1 ∷ []) ≡ Err RowRange
put_far = refl

put_exhausted : after_put (standing most []) n_sales (pos 1) (pos 1 ∷ pos 2 ∷ []) ≡ Err Exhausted
put_exhausted = refl

deleted : after_delete (standing 4 (row 1 2 5 ∷ row 2 3 7 ∷ [])) n_sales (pos 1) ≡ Ok (standing 5 (row 2 3 7 ∷ []))
deleted = refl

deleted_absent : after_delete (standing 0 (row 1 2 5 ∷ [])) n_sales (pos 9) ≡ Err NoRow
deleted_absent = refl
