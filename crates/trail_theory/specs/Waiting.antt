-- The names that wait for a spawned child, and the programs in which no statement uses one.
use Rattle.std.specs.Prelude.{ℕ, List, [], ◌∷◌, ◌++◌, Option, Some, None}
use Rattle.meaning.specs.Tree.{Name, Term, number, name, cell, has as has_row, limit, sum, negate, binary, Deed, bind, enter, read}
use Rattle.meaning.specs.Tree.{sync, update, choose, loop, give, Body, end, step, Tree}
use Rattle.meaning.specs.declared.tree.Way.TheVariants.{Call, Spawn}
use Rattle.meaning.specs.Statements.{proc_of}
use Rattle.meaning.specs.SmallStep.{Todo, blocks, halves, second, turns}
use Rattle.trail_theory.specs.Order.{In}

abbrev pub IsFree : List ℕ → Term → Type 0
IsFree W (number n) = Unit {0}
IsFree W (name x) = In x W → ⊥
IsFree W (cell t e c) = IsFree W e
IsFree W (has_row t e) = IsFree W e
IsFree W (limit t) = Unit {0}
IsFree W (sum t c) = Unit {0}
IsFree W (negate e) = IsFree W e
IsFree W (binary op e f) = IsFree W e × IsFree W f

abbrev pub AreFree : List ℕ → List Term → Type 0
AreFree W [] = Unit {0}
AreFree W (e ∷ es) = IsFree W e × AreFree W es

abbrev pub with_name : Option ℕ → List ℕ → List ℕ
with_name None W = W
with_name (Some x) W = x ∷ W

-- the names that wait after a statement
abbrev mutual
  pub waiting_deed : List ℕ → Deed → List ℕ
  waiting_deed W (bind x e) = W
  waiting_deed W (enter x Call f es) = W
  waiting_deed W (enter x Spawn f es) = with_name x W
  waiting_deed W (read x r) = W
  waiting_deed W sync = []
  waiting_deed W (update r es) = W
  waiting_deed W (choose e a b) = waiting_body W a ++ waiting_body W b
  waiting_deed W (loop x e f grain g es) = W
  waiting_deed W (give e) = W

  pub waiting_body : List ℕ → Body → List ℕ
  waiting_body W end = W
  waiting_body W (step s d b) = waiting_body (waiting_deed W d) b

abbrev mutual
  pub IsOrderlyDeed : List ℕ → Deed → Type 0
  IsOrderlyDeed W (bind x e) = IsFree W e
  IsOrderlyDeed W (enter x Call f es) = AreFree W es
  IsOrderlyDeed W (enter x Spawn f es) = AreFree W es
  IsOrderlyDeed W (read x r) = Unit {0}
  IsOrderlyDeed W sync = Unit {0}
  IsOrderlyDeed W (update r es) = AreFree W es
  IsOrderlyDeed W (choose e a b) = IsFree W e × (IsOrderly W a × IsOrderly W b)
  IsOrderlyDeed W (loop x e f grain g es) = IsFree W e × (IsFree W f × AreFree W es)
  IsOrderlyDeed W (give e) = IsFree W e

  pub IsOrderly : List ℕ → Body → Type 0
  IsOrderly W end = Unit {0}
  IsOrderly W (step s d b) = IsOrderlyDeed W d × IsOrderly (waiting_deed W d) b

abbrev pub AreOrderly : List ℕ → List Body → Type 0
AreOrderly W [] = Unit {0}
AreOrderly W (b ∷ bs) = IsOrderly W b × AreOrderly (waiting_body W b) bs

abbrev pub UsesNoWaitingName : Tree → Type 0
UsesNoWaitingName program = (f : Name) → IsOrderly [] (proc_of program f).body

abbrev pub IsOrderlyTodo : List ℕ → Todo → Type 0
IsOrderlyTodo W (blocks bs) = AreOrderly W bs
IsOrderlyTodo W (halves k job count i) = Unit {0}
IsOrderlyTodo W (second k job count i) = Unit {0}
IsOrderlyTodo W (turns job count i) = Unit {0}

-- no statement reads a reducer
abbrev mutual
  pub NoReadsDeed : Deed → Type 0
  NoReadsDeed (bind x e) = Unit {0}
  NoReadsDeed (enter x way f es) = Unit {0}
  NoReadsDeed (read x r) = ⊥
  NoReadsDeed sync = Unit {0}
  NoReadsDeed (update r es) = Unit {0}
  NoReadsDeed (choose e a b) = NoReads a × NoReads b
  NoReadsDeed (loop x e f grain g es) = Unit {0}
  NoReadsDeed (give e) = Unit {0}

  pub NoReads : Body → Type 0
  NoReads end = Unit {0}
  NoReads (step s d b) = NoReadsDeed d × NoReads b

abbrev pub HasNoReads : Tree → Type 0
HasNoReads program = (f : Name) → NoReads (proc_of program f).body
