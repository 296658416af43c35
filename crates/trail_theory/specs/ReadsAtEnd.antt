-- Programs in which main alone reads reducers, at its end, and which nothing enters again: what the checker's rules give.
use Rattle.std.specs.Prelude.{◌≡◌, Bool, true, false, ◌&&◌}
use Rattle.meaning.specs.Tree.{Name, Deed, bind, enter, read, sync, update, choose, loop, give, Body, end, step, Tree}
use Rattle.meaning.specs.declared.tree.Way.TheVariants.{Spawn}
use Rattle.meaning.specs.Statements.{proc_of}
use Rattle.meaning.specs.Elision.{main}
use Rattle.trail_theory.specs.Waiting.{UsesNoWaitingName, NoReadsDeed, NoReads}

abbrev pub IsOther : Name → Type 0
IsOther f = f ≡ main → ⊥

-- each procedure that is called, spawned or looped over is one of these
abbrev mutual
  pub EntersOnlyDeed : (Name → Type 0) → Deed → Type 0
  EntersOnlyDeed P (bind x e) = Unit {0}
  EntersOnlyDeed P (enter x way f es) = P f
  EntersOnlyDeed P (read x r) = Unit {0}
  EntersOnlyDeed P sync = Unit {0}
  EntersOnlyDeed P (update r es) = Unit {0}
  EntersOnlyDeed P (choose e a b) = EntersOnly P a × EntersOnly P b
  EntersOnlyDeed P (loop x e f grain g es) = P g
  EntersOnlyDeed P (give e) = Unit {0}

  pub EntersOnly : (Name → Type 0) → Body → Type 0
  EntersOnly P end = Unit {0}
  EntersOnly P (step s d b) = EntersOnlyDeed P d × EntersOnly P b

-- plain binds, returns, and ifs of these
abbrev mutual
  pub IsPlainDeed : Deed → Type 0
  IsPlainDeed (bind x e) = Unit {0}
  IsPlainDeed (enter x way f es) = ⊥
  IsPlainDeed (read x r) = ⊥
  IsPlainDeed sync = ⊥
  IsPlainDeed (update r es) = ⊥
  IsPlainDeed (choose e a b) = IsPlain a × IsPlain b
  IsPlainDeed (loop x e f grain g es) = ⊥
  IsPlainDeed (give e) = Unit {0}

  pub IsPlain : Body → Type 0
  IsPlain end = Unit {0}
  IsPlain (step s d b) = IsPlainDeed d × IsPlain b

-- what may stand in main's outermost block after a read: reads and plain statements
abbrev pub IsEnding : Body → Type 0
IsEnding end = Unit {0}
IsEnding (step s (read x r) b) = IsEnding b
IsEnding (step s d b) = IsPlainDeed d × IsEnding b

abbrev mutual
  pub spawns_nothing_deed : Deed → Bool
  spawns_nothing_deed (enter x Spawn f es) = false
  spawns_nothing_deed (choose e a b) = spawns_nothing a && spawns_nothing b
  spawns_nothing_deed _ = true

  pub spawns_nothing : Body → Bool
  spawns_nothing end = true
  spawns_nothing (step s d b) = spawns_nothing_deed d && spawns_nothing b

-- a block, where no spawn stands before it with no sync of the outermost block between
abbrev pub ReadsAtEnd : Bool → Body → Type 0
ReadsAtEnd synced end = Unit {0}
ReadsAtEnd synced (step s (read x r) b) = (synced ≡ true) × IsEnding b
ReadsAtEnd synced (step s sync b) = ReadsAtEnd true b
ReadsAtEnd synced (step s d b) = NoReadsDeed d × ReadsAtEnd (synced && spawns_nothing_deed d) b

-- nothing enters main, and it isn't recorded
abbrev pub MainIsAlone : Tree → Type 0
MainIsAlone program = ((f : Name) → EntersOnly IsOther (proc_of program f).body) × ((proc_of program main).memo ≡ false)

-- main alone reads, at its end; nothing enters it, and it isn't recorded
pub record ReadsAtMainsEnd (program : Tree) : Type 0 where
  pub in_main : ReadsAtEnd true (proc_of program main).body
  pub elsewhere : (f : Name) → IsOther f → NoReads (proc_of program f).body
  pub alone : (f : Name) → EntersOnly IsOther (proc_of program f).body
  pub unrecorded : (proc_of program main).memo ≡ false

-- what the checker's rules on waiting names, on reads and on main give
pub record KeepsRules (program : Tree) : Type 0 where
  pub waiting : UsesNoWaitingName program
  pub reads : ReadsAtMainsEnd program
