-- The changes with which a run begins.
use Rattle.std.proofs.Common.{◌≡◌, ℕ, zero, suc, ◌+◌, arith, List, [], ◌∷◌, ◌++◌, ℤ, Bool, true, false, cond, Option, Some, None, refl, ap, sym, ◌∙◌, drop, append_assoc, append-nil}
use Rattle.std.specs.Prelude.{slice_get}
use Rattle.std.specs.Global.{Vec}
use Rattle.monoid_laws.specs.declared.Kind.{Kind}
use Rattle.monoid_laws.specs.declared.Kind.TheVariants as k
use Rattle.monoid_laws.specs.Kinds.{names_element, element_of}
use Rattle.meaning.specs.Outcome.{Log, Updates}
use Rattle.meaning.specs.Statements.{reducers, naming, updates_by, in_pairs, in_groups, initial_updates}
use Rattle.meaning.specs.Tree.{Red, reducer, Tree}
use Rattle.serial_oracle.specs.declared.journal.Change.{Change}
use Rattle.serial_oracle.specs.declared.journal.Change.TheVariants as c
use Rattle.serial_oracle.specs.declared.scope.Scope.{Scope}
use Rattle.serial_oracle.specs.Keeping.{tree_in, records_in}
use Rattle.serial_oracle.specs.Worths.{kinds, noticed, grouped, noted_in, waiting}
use Rattle.serial_oracle.proofs.Noted.{noted-append}

named_log : (n : ℕ) (kind : Kind) (vs : List ℤ) (b : Bool) → (naming n kind vs b).log ≡ cond b (Updates n kind (element_of kind vs) ∷ []) []
named_log n kind vs true = refl
named_log n kind vs false = refl

noticed_group : (o : Option Kind) (n : ℕ) (vs : List ℤ) → noticed o n vs ≡ grouped o n (vs ∷ [])
noticed_group None n vs = refl
noticed_group (Some kind) n vs = named_log n kind vs (names_element kind vs)

pub grouped_none : (o : Option Kind) (n : ℕ) → grouped o n [] ≡ []
grouped_none None n = refl
grouped_none (Some kind) n = refl

-- one more change
pub noted_group : (scope : Scope) (us : List Change) (n : ℕ) (numbers : Vec ℤ) → noted_in scope (us ++ (c.Update n numbers ∷ [])) ≡ noted_in scope us ++ grouped (slice_get (kinds (tree_in scope)) n) n (numbers.items ∷ [])
noted_group scope us n numbers =
    noted-append (tree_in scope) (records_in scope) us (c.Update n numbers)
    ∙ ap (λ l. noted_in scope us ++ l) (append-nil (noticed (slice_get (kinds (tree_in scope)) n) n numbers.items) ∙ noticed_group (slice_get (kinds (tree_in scope)) n) n numbers.items)

-- none is left
pub all_noted : (o : Option Kind) (n : ℕ) (groups : List (List ℤ)) (new all : Log) → groups ≡ [] → new ++ grouped o n groups ≡ all → new ≡ all
all_noted o n groups new all h so_far =
    sym (append-nil new) ∙ ap (λ l. new ++ l) (sym (grouped_none o n) ∙ ap (grouped o n) (sym h)) ∙ so_far

-- a single number makes no pair
pub none_waits : (held : Option ℤ) → in_pairs (waiting held []) ≡ []
none_waits None = refl
none_waits (Some v) = refl

-- ---- reducer by reducer

at_left : {A : Type 0} (xs : List A) (n : ℕ) (x : A) (ys : List A) → drop n xs ≡ x ∷ ys → slice_get xs n ≡ Some x
at_left [] zero x ys h = absurd cc
at_left [] (suc n) x ys h = absurd cc
at_left (z ∷ xs) zero x ys h = let e : z ≡ x = cc in ap (λ y. Some y) e
at_left (z ∷ xs) (suc n) x ys h = at_left xs n x ys h

behind_left : {A : Type 0} (xs : List A) (n : ℕ) (x : A) (ys : List A) → drop n xs ≡ x ∷ ys → drop (suc n) xs ≡ ys
behind_left [] zero x ys h = absurd cc
behind_left [] (suc n) x ys h = absurd cc
behind_left (z ∷ xs) zero x ys h = let e : xs ≡ ys = cc in e
behind_left (z ∷ xs) (suc n) x ys h = behind_left xs n x ys h

module _ (scope : Scope) (n : ℕ) (r : Red) (left rest : Tree) (new old all : Log) (here : left ≡ reducer r ∷ rest) (kinds_left : drop n (kinds (tree_in scope)) ≡ kinds left) where
  kinds_here : drop n (kinds (tree_in scope)) ≡ r.kind ∷ kinds rest
  kinds_here = kinds_left ∙ ap kinds here

  next : n + 1 ≡ suc n
  next = omega arith

  -- the updates of a reducer are noted, and the others' are left
  pub reducer_noted : old ++ initial_updates n (reducers left) ≡ all → new ≡ old ++ grouped (slice_get (kinds (tree_in scope)) n) n (in_groups r.kind r.initial) → new ++ initial_updates (n + 1) (reducers rest) ≡ all
  reducer_noted so_far h =
      ap (λ m. new ++ initial_updates m (reducers rest)) next ∙
      ap (λ l. l ++ initial_updates (suc n) (reducers rest)) (h ∙ ap (λ o. old ++ grouped o n (in_groups r.kind r.initial)) (at_left (kinds (tree_in scope)) n r.kind (kinds rest) kinds_here))
      ∙ append_assoc old (updates_by n r.kind (in_groups r.kind r.initial)) (initial_updates (suc n) (reducers rest))
      ∙ ap (λ t. old ++ initial_updates n (reducers t)) (sym here)
      ∙ so_far

  pub reducer_kinds : drop (n + 1) (kinds (tree_in scope)) ≡ kinds rest
  reducer_kinds = ap (λ m. drop m (kinds (tree_in scope))) next ∙ behind_left (kinds (tree_in scope)) n r.kind (kinds rest) kinds_here
