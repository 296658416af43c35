-- Why an edit of a row is refused, by its numbers alone.
use Rattle.std.specs.Prelude.{ℕ, ℤ, Bool, true, false, not, nat_eq, Option, Some, None}
use Rattle.meaning.specs.Edits.{in_range, most}
use Rattle.table_parts.specs.declared.refusals.RowError.{RowError}
use Rattle.table_parts.specs.declared.refusals.RowError.TheVariants as e

-- refused for the first cause that is there
abbrev pub unless : Bool → RowError → Option RowError → Option RowError
unless true error rest = Some error
unless false error rest = rest

-- why a row of so many values isn't put into a table of so many columns, behind so many edits
abbrev pub put_refusal : ℤ → ℕ → ℕ → ℕ → Option RowError
put_refusal row values columns edits =
    unless (not (in_range row)) e.RowRange (unless (not (nat_eq values columns)) e.WrongColumns (unless (nat_eq edits most) e.Exhausted None))

-- why a row that is there, or isn't, isn't taken out of a table, behind so many edits
abbrev pub delete_refusal : ℤ → Bool → ℕ → Option RowError
delete_refusal row there edits = unless (not (in_range row)) e.RowRange (unless (not there) e.NoRow (unless (nat_eq edits most) e.Exhausted None))
