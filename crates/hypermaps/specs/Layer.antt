-- What a hypermap is worth, reducer by reducer.
use Rattle.std.specs.Prelude.{◌≡◌, ℕ, zero, suc, [], ◌∷◌, ◌++◌, ◌<◌, List, length, false, nat_eq, All, slice_index_or, if◌then◌else◌}
use Rattle.std.specs.List.{list_any}
use Rattle.monoid_laws.specs.Worth.{Worth}
use Rattle.monoid_laws.specs.Kinds.{operate, identity_of, AreWorths}
use Rattle.monoid_laws.specs.declared.Kind.{Kind}

pub record Layer : Type 0 where
  pub kinds : List Kind
  pub worths : List Worth

-- c is the i-th kind, and w the i-th value
abbrev pub IsAt : {X : Type 0} → List X → ℕ → X → Type 0
IsAt xs i x = x ≡ slice_index_or xs i x

-- the reducers in use, with that one
abbrev pub used_also : List ℕ → ℕ → List ℕ
used_also used r = if list_any (nat_eq r) used then used else used ++ r ∷ []

-- the values are their kinds', and the reducers that are not in use stand at their identity
pub record IsLayer (cs : List Kind) (ws : List Worth) (used : List ℕ) : Type 0 where
  pub right : AreWorths cs ws
  pub shut : (i : ℕ) (c : Kind) (w : Worth) → i < length cs → IsAt cs i c → IsAt ws i w → list_any (nat_eq i) used ≡ false → w ≡ identity_of c
  pub below : All (λ i. i < length cs) used

-- the first n values of the right combined with those of the left
abbrev pub operate_first : ℕ → List Kind → List Worth → List Worth → List Worth
operate_first zero cs xs ys = xs
operate_first (suc n) (c ∷ cs) (x ∷ xs) (y ∷ ys) = operate c x y ∷ operate_first n cs xs ys
operate_first (suc n) (c ∷ cs) (x ∷ xs) [] = x ∷ xs
operate_first (suc n) (c ∷ cs) [] ys = []
operate_first (suc n) [] xs ys = xs
