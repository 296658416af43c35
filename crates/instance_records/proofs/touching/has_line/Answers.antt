use Rattle.std.proofs.Common.{sym, subst}
use Rattle.instance_records.specs.declared.readings.Below.{out-Below}
use Rattle.instance_records.specs.Full.{IsFull}
use Rattle.instance_records.specs.Readings.{node_notes}
use Rattle.instance_records.proofs.MoreRows.{below_full}
use Rattle.instance_records.proofs.touching.has_line.Goals as goal

pub returns-in-Some : goal.returns-in-Some
returns-in-Some c =
    let node = c.args.node.now in
    record { has = λ e. c.has.ensures.has e (node_notes node) (subst (λ b. IsFull (node_notes node) (out-Below b).full) (sym c.deref.ensures) (below_full node c.in-Some.below c.in-Some.is c.requires.full)) }
