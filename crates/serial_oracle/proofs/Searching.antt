-- One step of each search in the tables.
use Rattle.std.proofs.Common.{ℕ, ◌+◌, List, drop, map, ℤ}
use Rattle.std.specs.Prelude.{string_bytes}
use Rattle.std.specs.Global.{Global}
use Rattle.std.specs.declared.string.String.{String}
use Rattle.meaning.specs.Tree.{Name}
use Rattle.serial_oracle.specs.declared.tables.TableRows.{TableRows}
use Rattle.meaning.specs.Tables.{rows_of, columns_of, index_of}
use Rattle.serial_oracle.specs.Listing.{tables_plain}

abbrev pub rows_from : List TableRows → Name → ℕ → List (ℤ × List ℤ)
rows_from ts n i = rows_of (tables_plain (drop i ts)) n

abbrev pub columns_from : List TableRows → Name → ℕ → List Name
columns_from ts n i = columns_of (tables_plain (drop i ts)) n

abbrev pub place_from : List (String Global) → Name → ℕ → ℕ
place_from cs n i = i + index_of (map string_bytes (drop i cs)) n
