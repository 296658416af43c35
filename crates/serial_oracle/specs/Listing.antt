-- The slow program's tables, as the table model sees them.
use Rattle.std.specs.Prelude.{ℤ, List, map, string_bytes}
use Rattle.serial_oracle.specs.declared.tables.TableRows.{TableRows}
use Rattle.serial_oracle.specs.declared.tables.Row.{Row}
use Rattle.meaning.specs.Tables.{Listed, Tables}

abbrev pub row_plain : Row → ℤ × List ℤ
row_plain r = (r.number, r.values.items)

abbrev pub rows_plain : List Row → List (ℤ × List ℤ)
rows_plain rows = map row_plain rows

abbrev pub listed : TableRows → Listed
listed t = record { called = string_bytes t.name; columns = map string_bytes t.columns.items; rows = rows_plain t.rows.items }

abbrev pub tables_plain : List TableRows → Tables
tables_plain ts = map listed ts
