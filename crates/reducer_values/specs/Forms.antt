-- How a value is kept: whether it takes memory, whether it holds nothing, and what a kind keeps of a list.
use Rattle.std.specs.Prelude.{◌≡◌, Bool, true, false, ℤ, List, [], take}
use Rattle.monoid_laws.specs.Worth.{Worth, items, amounts}
use Rattle.monoid_laws.specs.Kinds.{last_of}
use Rattle.monoid_laws.specs.declared.Kind.{Kind}
use Rattle.monoid_laws.specs.declared.Kind.TheVariants as k

-- the values of the kind take no memory of their own
abbrev pub is_fixed : Kind → Bool
is_fixed k.List = false
is_fixed (k.First n) = false
is_fixed (k.Last n) = false
is_fixed k.Hist = false
is_fixed _ = true

-- a list or amounts that hold nothing
abbrev pub IsBlank : Worth → Type 0
IsBlank (items xs) = xs ≡ []
IsBlank (amounts es) = es ≡ []
IsBlank _ = ⊥

-- what the kind keeps of a list
abbrev pub trimmed : Kind → List ℤ → List ℤ
trimmed (k.First n) xs = take n xs
trimmed (k.Last n) xs = last_of n xs
trimmed _ xs = xs

-- the kinds whose values are lists
abbrev pub IsListKind : Kind → Type 0
IsListKind k.List = Unit {0}
IsListKind (k.First n) = Unit {0}
IsListKind (k.Last n) = Unit {0}
IsListKind _ = ⊥
