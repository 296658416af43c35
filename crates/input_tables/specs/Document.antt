-- Which tables a text of TOML gives, and why one is refused.
use Rattle.std.specs.Prelude.{◌≡◌, ℕ, List, [], ◌∷◌, ◌++◌, Option, Some, None, Result, Ok, Err, slice_get, String, string_bytes}
use Rattle.std.specs.declared.alloc.Global.{Global}
use Rattle.std.specs.Ordering.{nat_cmp, match_ordering}
use Rattle.std.specs.Cmp.Lexicographic.{slice_cmp}
use Rattle.toml.specs.Data.{Data, Members, no_members, member}
use Rattle.toml.specs.Parse.{parse_document}
use Rattle.toml.specs.View.{view}
use Rattle.toml.specs.declared.value.Value.{Value}
use Rattle.meaning.specs.Tree.{Name}
use Rattle.meaning.specs.Tables.{Tables, Listed}
use Rattle.input_tables.specs.Shapes.{table_in}
use Rattle.input_tables.specs.declared.refusal.TablesError.{TablesError}
use Rattle.input_tables.specs.declared.refusal.TablesError.TheVariants as e

-- why a document is refused: it isn't TOML, or this table isn't of the shape
pub data Refusal : Type 0 where
  NotToml : Refusal
  Shape : Name → Refusal

-- a key of the document and its value
abbrev pub Named : Type 0
Named = Name × Data

-- the keys and values of a map's entries
abbrev pub named : List (String Global × Value) → List Named
named [] = []
named (e ∷ es) = (string_bytes e.0, view e.1) ∷ named es

-- one more key in its place by the byte order of names
abbrev pub put_named : Named → List Named → List Named
put_named x [] = x ∷ []
put_named x (y ∷ ys) = match_ordering (slice_cmp nat_cmp x.0 y.0) (x ∷ y ∷ ys) (x ∷ y ∷ ys) (y ∷ put_named x ys)

-- the keys and values in byte order of the names
abbrev pub in_order : Members → List Named
in_order no_members = []
in_order (member k d ms) = put_named (k, d) (in_order ms)

-- a table that is of the shape, or the refusal that names it
abbrev pub unless_faulty : Name → Option Listed → (Listed → Result Tables Refusal) → Result Tables Refusal
unless_faulty name None f = Err (Shape name)
unless_faulty name (Some t) f = f t

-- the tables of these keys and values after those so far, or the first faulty one
abbrev pub tables_from : Tables → List Named → Result Tables Refusal
tables_from ts [] = Ok ts
tables_from ts (x ∷ xs) = unless_faulty x.0 (table_in x.0 x.1) (λ t. tables_from (ts ++ t ∷ []) xs)

-- the 65th is refused whatever else is wrong
abbrev pub unless_many : Option Named → Result Tables Refusal → Result Tables Refusal
unless_many None r = r
unless_many (Some x) r = Err (Shape x.0)

abbrev pub tables_of : List Named → Result Tables Refusal
tables_of xs = unless_many (slice_get xs 64) (tables_from [] xs)

-- the tables of a document
abbrev pub reading_of : Members → Result Tables Refusal
reading_of ms = tables_of (in_order ms)

abbrev pub read_document : Option Members → Result Tables Refusal
read_document None = Err NotToml
read_document (Some members) = reading_of members

-- the tables of a text, or why it is refused
abbrev pub reading : List ℕ → Result Tables Refusal
reading text = read_document (parse_document text)

-- the error is that of this answer, unless memory was refused
abbrev pub IsCause : Result Tables Refusal → TablesError → Type 0
IsCause answer e.NoMemory = Unit {0}
IsCause answer e.NotToml = answer ≡ Err NotToml
IsCause answer (e.Shape t) = answer ≡ Err (Shape (string_bytes t))

abbrev pub HasCause : List ℕ → TablesError → Type 0
HasCause text error = IsCause (reading text) error

abbrev pub HasCauseIn : Members → TablesError → Type 0
HasCauseIn members error = IsCause (reading_of members) error

-- the error names this table, unless memory was refused
abbrev pub NamesTable : Name → TablesError → Type 0
NamesTable t error = IsCause (Err (Shape t)) error
