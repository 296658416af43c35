-- Whether a table's operation is a monoid, by trying every element.
use Rattle.std.specs.Prelude.{ℕ, zero, suc, Bool, true, false, ◌==◌, ◌&&◌}
use Rattle.monoid_laws.specs.declared.Kind.{Kind}
use Rattle.monoid_laws.specs.declared.Kind.TheVariants as k
use Rattle.monoid_laws.specs.declared.Table.{Table}
use Rattle.monoid_laws.specs.declared.TableAnswer.{TableAnswer}
use Rattle.monoid_laws.specs.declared.TableAnswer.TheVariants.{Monoid, NotIdentity, NotAssociative}
use Rattle.monoid_laws.specs.Kinds.{table_at}

-- the test holds of each number below n
unfoldable pub all_below : (ℕ → Bool) → ℕ → Bool
all_below f zero = true
all_below f (suc n) = all_below f n && f n

abbrev pub keeps_unit : Table → ℕ → Bool
keeps_unit t a = (table_at t t.unit a == a) && (table_at t a t.unit == a)

abbrev pub agrees : Table → ℕ → ℕ → ℕ → Bool
agrees t a b c = table_at t (table_at t a b) c == table_at t a (table_at t b c)

-- the unit changes no element, and each three can be combined either way
abbrev pub is_monoid_table : Table → Bool
is_monoid_table t = all_below (keeps_unit t) t.size && all_below (λ a. all_below (λ b. all_below (agrees t a b) t.size) t.size) t.size

-- what a check of a table says of it
abbrev pub says_monoid : TableAnswer → Bool
says_monoid Monoid = true
says_monoid (NotIdentity a) = false
says_monoid (NotAssociative a b c) = false

abbrev pub is_monoid_kind : Kind → Bool
is_monoid_kind (k.Table t) = is_monoid_table t
is_monoid_kind _ = true

-- the kinds that a program can read: numbers and elements of tables
abbrev pub is_readable : Kind → Bool
is_readable k.List = false
is_readable (k.First n) = false
is_readable (k.Last n) = false
is_readable k.Argmax = false
is_readable k.Affine = false
is_readable k.Hist = false
is_readable _ = true
