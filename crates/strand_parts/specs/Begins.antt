-- What a run begins with.
use Rattle.std.specs.Prelude.{◌≡◌, ℕ, true, List, length, Some, slice_get}
use Rattle.monoid_laws.specs.declared.Kind.{Kind}
use Rattle.monoid_laws.specs.Kinds.{arity, names_element}
use Rattle.linked_program.specs.Initials.{PlainInitial}

-- there is such a reducer, and the numbers are as many as an update of its kind takes, and name an element
pub record IsInitial (kinds : List Kind) (i : PlainInitial) : Type 0 where
  pub kind : Kind
  pub there : slice_get kinds i.reducer ≡ Some kind
  pub count : length i.numbers ≡ arity kind
  pub named : names_element kind i.numbers ≡ true
