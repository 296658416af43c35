-- The initial values of reducers.
use Rattle.std.specs.Prelude.{◌≡◌, ℕ, suc, ◌%◌, ℤ, Bool, true, ◌==◌, ◌&&◌, List, [], ◌∷◌, ◌++◌, map, length, Option, Some, slice_get}
use Rattle.monoid_laws.specs.declared.Kind.{Kind}
use Rattle.monoid_laws.specs.declared.Kind.TheVariants as k
use Rattle.monoid_laws.specs.declared.Table.{Table}
use Rattle.monoid_laws.specs.Kinds.{arity, names_element, element_of}
use Rattle.meaning.specs.Tree.{Red, Tree}
use Rattle.meaning.specs.Outcome.{Event, Log, Updates}
use Rattle.meaning.specs.Statements.{reducers, in_groups}
use Rattle.linked_program.specs.declared.initial.Initial.{Initial}

-- ---- the rule

abbrev pub all_elements : Table → List ℤ → Bool
all_elements t [] = true
all_elements t (v ∷ vs) = names_element (k.Table t) (v ∷ []) && all_elements t vs

-- a table reducer begins with elements
abbrev pub are_elements : Kind → List ℤ → Bool
are_elements (k.Table t) vs = all_elements t vs
are_elements _ vs = true

-- as many numbers for each element as an update takes, and each names one
abbrev pub is_initial : Kind → List ℤ → Bool
is_initial kind vs = (length vs % arity kind == 0) && are_elements kind vs

-- ---- initial values by the numbers of their reducers

-- the numbers of one element, and the reducer that begins with it
pub record PlainInitial : Type 0 where
  pub reducer : ℕ
  pub numbers : List ℤ

abbrev pub plain_initial : Initial → PlainInitial
plain_initial i = record { reducer = i.reducer; numbers = i.numbers.items }

abbrev pub initials_by : ℕ → List (List ℤ) → List PlainInitial
initials_by n groups = map (λ vs. record { reducer = n; numbers = vs }) groups

-- those of these reducers, of which the first has number n
abbrev pub initials_from : ℕ → List Red → List PlainInitial
initials_from n [] = []
initials_from n (r ∷ rs) = initials_by n (in_groups r.kind r.initial) ++ initials_from (suc n) rs

-- those of a program, in the order in which a run begins with them
abbrev pub initials_of : Tree → List PlainInitial
initials_of t = initials_from 0 (reducers t)

-- ---- the updates by them

-- the update by these numbers, as many as the reducer's kind takes, which name an element
pub record IsUpdateBy (kinds : List Kind) (i : PlainInitial) (e : Event) : Type 0 where
  pub kind : Kind
  pub there : slice_get kinds i.reducer ≡ Some kind
  pub count : length i.numbers ≡ arity kind
  pub named : names_element kind i.numbers ≡ true
  pub is : e ≡ Updates i.reducer kind (element_of kind i.numbers)

-- one by one
abbrev pub AreUpdatesBy : List Kind → List PlainInitial → Log → Type 0
AreUpdatesBy kinds [] [] = Unit {0}
AreUpdatesBy kinds (i ∷ is) (e ∷ es) = IsUpdateBy kinds i e × AreUpdatesBy kinds is es
AreUpdatesBy kinds _ _ = ⊥
