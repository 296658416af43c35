use Rattle.std.proofs.Common.{Option, sym, subst}
use Rattle.record_theory.specs.Named.{HaveValues}
use Rattle.positions.specs.Layers.{PlainLayer}
use Rattle.positions.specs.Strands.{PlainStrand}
use Rattle.activations.specs.Given.{lent}
use Rattle.running_ahead.specs.Leaves.{AreRecorded, none, gathered_of, IsRefusedLeaf}
use Rattle.recording_ahead.specs.AnsweredChains.{IsOwn, IsRefusedBy, IsRefusedTurn}
use Rattle.recording_ahead.proofs.answered_chain.chain_through.Goals as goal

pub returns-in-Err-clause-records : goal.returns-in-Err-clause-records
returns-in-Err-clause-records g c =
    let m : PlainStrand = c.args.machine.now in
    subst
    (λ (s : PlainStrand). AreRecorded (lent c.args.setting) c.args.stretch.site m.top.procedure m.top.slots m.top.left c.args.stretch.share.first (gathered_of m m.arguments) 0
    (gathered_of s m.arguments))
    (sym c.open_own.ensures.same) none

pub returns-in-Err-clause-values : goal.returns-in-Err-clause-values
returns-in-Err-clause-values g c h = subst (λ (s : PlainStrand). HaveValues c.args.setting.program.now.kinds s.tally.made) (sym c.open_own.ensures.same) h

pub returns-in-None-clause-leaf : goal.returns-in-None-clause-leaf
returns-in-None-clause-leaf g c = absurd (subst (λ (o : Option PlainLayer). IsOwn c.args.setting.program.now.kinds o) c.in-None.is c.in-Ok-came.ensures.own)

pub returns-in-None-own-clause-leaf : goal.returns-in-None-own-clause-leaf
returns-in-None-own-clause-leaf g c =
    subst (λ (s : PlainStrand). IsRefusedLeaf s c.chain_in-came.new.machine) c.open_own.ensures.same
    (subst (λ (o : Option PlainLayer). IsRefusedBy o c.open_own.new.machine c.chain_in-came.new.machine) c.in-None-own.is c.in-Err-came.ensures.refused)

pub returns-in-Some-own-clause-turn : goal.returns-in-Some-own-clause-turn
returns-in-Some-own-clause-turn g c =
    subst (λ (s : PlainStrand). IsRefusedTurn c.args.machine.now s) (sym c.close_own-back.ensures.same)
    (subst (λ (s : PlainStrand). IsRefusedTurn s c.chain_in-came.new.machine) c.open_own.ensures.same
    (subst (λ (o : Option PlainLayer). IsRefusedBy o c.open_own.new.machine c.chain_in-came.new.machine) c.in-Some-own.is c.in-Err-came.ensures.refused))
