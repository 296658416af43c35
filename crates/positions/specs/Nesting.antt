-- Where the layer of a memo instance is open around another instance, a memo procedure has statements that enter others.
use Rattle.std.specs.Prelude.{◌≡◌, ◌⊎◌, ℕ, true, List, [], ◌∷◌, length}
use Rattle.linked_program.specs.declared.code.Code.{Code}
use Rattle.linked_program.specs.CodeView.{memo_of}
use Rattle.positions.specs.declared.work.Work.{Work}
use Rattle.positions.specs.declared.work.Work.TheVariants.{Block, Over}
use Rattle.positions.specs.declared.phase.Phase.{Phase}
use Rattle.positions.specs.declared.phase.Phase.TheVariants.{Running, Returning, Broken}
use Rattle.positions.specs.Activations.{PlainActivation}
use Rattle.positions.specs.Code.{may_nest}
use Rattle.positions.specs.Tallies.{PlainOpened}
use Rattle.positions.specs.Strands.{PlainStrand}

-- an instance of a procedure, not of a loop
abbrev pub IsProcedures : Work → Type 0
IsProcedures (Block p) = Unit {0}
IsProcedures Over = Unit {0}
IsProcedures _ = ⊥

module _ (codes : List Code) where
  -- each of them has another one inside
  abbrev pub AreNested : List PlainOpened → Type 0
  AreNested [] = Unit {0}
  AreNested (o ∷ os) = may_nest codes ≡ true

  -- the instance of that name is the one with the topmost layer, and hasn't entered another
  abbrev pub IsInnermost : PlainActivation → List ℕ → PlainOpened → Type 0
  IsInnermost a path o = IsProcedures a.work × (memo_of codes a.procedure ≡ true) × (o.depth ≡ length path)

  -- so has each but the one on top
  abbrev pub NestUnder : PlainActivation → List ℕ → List PlainOpened → Type 0
  NestUnder a path [] = Unit {0}
  NestUnder a path (o ∷ os) = (may_nest codes ≡ true) ⊎ (IsInnermost a path o × AreNested os)

  -- the topmost instance runs, or returns, with its layer; where one is entered, spawned or left all layers are of instances around it
  abbrev pub NestAt : Phase → PlainStrand → Type 0
  NestAt Running s = NestUnder s.top s.path s.tally.opened
  NestAt (Returning v) s = NestUnder s.top s.path s.tally.opened
  NestAt (Broken f) s = Unit {0}
  NestAt _ s = AreNested s.tally.opened

  -- a step keeps that
  abbrev pub KeepsNesting : PlainStrand → PlainStrand → Type 0
  KeepsNesting s s' = NestAt s.phase s → NestAt s'.phase s'
