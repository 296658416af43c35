-- The programs whose numbers fit 64 bits.
use Rattle.std.specs.List.{AllByRecursion}
use Rattle.monoid_laws.specs.Kinds.{Fits}
use Rattle.meaning.specs.Tree.{Name, Term, number, name, cell, has as has_row, limit, sum, negate, binary, Deed, bind, enter, read}
use Rattle.meaning.specs.Tree.{sync, update, choose, loop, give, Body, end, step, Tree}
use Rattle.meaning.specs.Statements.{reducers, proc_of}

-- the numbers of an expression fit
abbrev pub FitsTerm : Term → Type 0
FitsTerm (number n) = Fits n
FitsTerm (name x) = Unit {0}
FitsTerm (cell t e c) = FitsTerm e
FitsTerm (has_row t e) = FitsTerm e
FitsTerm (limit t) = Unit {0}
FitsTerm (sum t c) = Unit {0}
FitsTerm (negate e) = FitsTerm e
FitsTerm (binary op e f) = FitsTerm e × FitsTerm f

abbrev mutual
  pub FitsDeed : Deed → Type 0
  FitsDeed (bind x e) = FitsTerm e
  FitsDeed (enter x way f es) = AllByRecursion FitsTerm es
  FitsDeed (read x r) = Unit {0}
  FitsDeed sync = Unit {0}
  FitsDeed (update r es) = AllByRecursion FitsTerm es
  FitsDeed (choose e a b) = FitsTerm e × (FitsBody a × FitsBody b)
  FitsDeed (loop x e f grain g es) = FitsTerm e × (FitsTerm f × AllByRecursion FitsTerm es)
  FitsDeed (give e) = FitsTerm e

  pub FitsBody : Body → Type 0
  FitsBody end = Unit {0}
  FitsBody (step s d b) = FitsDeed d × FitsBody b

-- the numbers of a program fit
pub record ProgramFits (program : Tree) : Type 0 where
  pub bodies : (f : Name) → FitsBody (proc_of program f).body
  pub initials : AllByRecursion (λ r. AllByRecursion Fits r.initial) (reducers program)
