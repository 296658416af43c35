-- One record in the place of several: a layer that takes it over has what it has after all of them.
use Rattle.std.specs.Prelude.{◌≡◌, ℕ, max, ℤ, List, [], ◌∷◌}
use Rattle.std.specs.List.{flat_map}
use Rattle.monoid_laws.specs.Worth.{Worth}
use Rattle.monoid_laws.specs.declared.Kind.{Kind}
use Rattle.monoid_laws.specs.Kinds.{operate_all, identities, AreWorths}
use Rattle.record_theory.specs.Record.{PlainRecord}
use Rattle.record_theory.specs.Named.{filled, SameMembers, AreValuesFrom}

-- how many instances were nested at most in one of these
abbrev pub highest : List PlainRecord → ℕ
highest [] = 0
highest (r ∷ rs) = max r.height (highest rs)

-- the arguments of the last
abbrev pub arguments_of_last : List ℤ → List PlainRecord → List ℤ
arguments_of_last vs [] = vs
arguments_of_last vs (r ∷ rs) = arguments_of_last r.arguments rs

-- for reducers of these kinds
module _ (kinds : List Kind) where
  -- the reducers' values, and behind them what the records contribute, one after another
  abbrev pub contributed : List Worth → List PlainRecord → List Worth
  contributed ws [] = ws
  contributed ws (r ∷ rs) = contributed (operate_all kinds ws (filled (identities kinds) r.contribution)) rs

  -- a record has what these have together, and the arguments of the last
  pub record IsSumOf (rs : List PlainRecord) (s : PlainRecord) : Type 0 where
    pub worths : (ws : List Worth) → AreWorths kinds ws → operate_all kinds ws (filled (identities kinds) s.contribution) ≡ contributed ws rs
    pub values : AreValuesFrom 0 kinds s.contribution
    pub reads : s.reads ≡ flat_map (λ r. r.reads) rs
    pub entered : SameMembers s.entered (flat_map (λ r. r.entered) rs)
    pub height : s.height ≡ highest rs
    pub arguments : (vs : List ℤ) → arguments_of_last vs rs ≡ s.arguments
