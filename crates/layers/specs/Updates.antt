-- Updates of a reducer by any count of numbers.
use Rattle.std.specs.Prelude.{◌≡◌, ℤ, Bool, true, false, List, []}
use Rattle.monoid_laws.specs.declared.Kind.{Kind}
use Rattle.monoid_laws.specs.declared.Kind.TheVariants as k
use Rattle.monoid_laws.specs.Worth.{items}
use Rattle.monoid_laws.specs.Kinds.{names_element, element_of}

-- a kind whose values are lists of numbers
abbrev pub is_list : Kind → Bool
is_list k.List = true
is_list (k.First n) = true
is_list (k.Last n) = true
is_list _ = false

-- the numbers name the element that changes nothing of a list
pub record IsIdentity (kind : Kind) (vs : List ℤ) : Type 0 where
  pub list : is_list kind ≡ true
  pub named : names_element kind vs ≡ true
  pub element : element_of kind vs ≡ items []
