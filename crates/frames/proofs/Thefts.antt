-- A strand in which that of a stolen continuation begins is the one that a theft gives by the program's tree.
use Rattle.std.proofs.Common.{◌≡◌, List, Result, Ok, Err, OnOk, sym, ap, ◌∙◌, subst}
use Rattle.monoid_laws.specs.declared.Kind.{Kind}
use Rattle.positions.specs.Setting.{Setting, IsLinked}
use Rattle.positions.specs.Strands.{PlainStrand, PlainTask}
use Rattle.positions.specs.Moves.{stolen}
use Rattle.positions.specs.Simulation.{IsStolen}
use Rattle.position_theory.proofs.Moves.{stolen_is}

pub stolen_or : {A E : Type 0} (setting : Setting) → IsLinked setting → (kit : List Kind) (task : PlainTask) (new : PlainStrand) (res : Result A E) → kit ≡ setting.kinds → OnOk res (new ≡ stolen setting.codes kit task)
    → OnOk res (IsStolen setting task new)
stolen_or setting linked kit task new (Ok a) same is =
    subst (λ (z : PlainStrand). IsStolen setting task z) (sym (is ∙ ap (λ ks. stolen setting.codes ks task) same)) (stolen_is setting linked task)
stolen_or setting linked kit task new (Err e) same is = tt
