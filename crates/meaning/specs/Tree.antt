-- The tree of a program as plain data: no pointers, no lines. Variables are numbers into the procedure's pool of names; everything else goes by name.
use Rattle.std.specs.Prelude.{ℕ, ℤ, List, Option, Bool}
use Rattle.meaning.specs.declared.tree.Operator.{Operator}
use Rattle.meaning.specs.declared.tree.Way.{Way}
use Rattle.monoid_laws.specs.declared.Kind.{Kind}

-- a name is its bytes
abbrev pub Name : Type 0
Name = List ℕ

pub data Term : Type 0 where
  number : ℤ → Term
  name : ℕ → Term
  cell : Name → Term → Name → Term
  has : Name → Term → Term
  limit : Name → Term
  sum : Name → Name → Term
  negate : Term → Term
  binary : Operator → Term → Term → Term

mutual
  pub data Deed : Type 0 where
    bind : ℕ → Term → Deed
    enter : Option ℕ → Way → Name → List Term → Deed
    read : ℕ → Name → Deed
    sync : Deed
    update : Name → List Term → Deed
    choose : Term → Body → Body → Deed
    loop : ℕ → Term → Term → ℕ → Name → List Term → Deed
    give : Term → Deed

  -- a block: no statement, or a statement with its number and the rest
  pub data Body : Type 0 where
    end : Body
    step : ℕ → Deed → Body → Body

-- a procedure: its parameters are the first names of its pool
pub record Proc : Type 0 where
  pub called : Name
  pub memo : Bool
  pub parameters : ℕ
  pub names : List Name
  pub body : Body

-- a reducer, with the numbers of its initial value
pub record Red : Type 0 where
  pub called : Name
  pub kind : Kind
  pub initial : List ℤ

pub data Decl : Type 0 where
  reducer : Red → Decl
  procedure : Proc → Decl

abbrev pub Tree : Type 0
Tree = List Decl
