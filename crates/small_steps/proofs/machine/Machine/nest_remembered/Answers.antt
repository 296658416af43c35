use Rattle.std.proofs.Common.{rules, ◌≡◌, ◌∙◌, ◌==◌, false, true}
use Rattle.meaning.specs.declared.tree.Way.TheVariants.{Call, Spawn}
use Rattle.positions.specs.declared.phase.Phase.TheVariants.{Entering, AtSpawn}
use Rattle.positions.specs.Advance.{answer_for, child_of, nested, pushed, recalled}
use Rattle.activations.specs.Given.{lent}
use Rattle.small_steps.specs.Steps.{GivesNone}
use Rattle.small_steps.proofs.Nesting.{nested_call, nested_spawn}
use Rattle.small_steps.proofs.Supplies.{either_on, holds_on}
use Rattle.small_steps.proofs.machine.Machine.nest_remembered.Goals as goal

pub returns-in-Call-clause-nested : goal.returns-in-Call-clause-nested
returns-in-Call-clause-nested g c =
    let e = c.args.entrance in
    let s = c.args.self.now in
    let p = pushed c.new-child.result false e.into e.work Entering s in
    let call : e.way ≡ Call = search rules in
    let deep : (s.top.left == 0) ≡ false = search rules in
    let child : c.new-child.result ≡ child_of e.callee c.args.slots.items s = search rules in
    holds_on (g.K.KitSource.lacks c.args.kits.now) (GivesNone g.K.KitSource.gives c.args.kits.now)
    (λ kit. c.call_memo.new.self ≡ recalled (lent c.args.setting) kit (answer_for (lent c.args.setting) p) p)
    (λ kit. c.call_memo.new.self ≡ nested (lent c.args.setting) kit e.statement e.way e.into e.work e.callee c.args.slots.items s)
    (λ kit h. h ∙ nested_call (lent c.args.setting) kit e.statement e.way e.into e.work e.callee c.args.slots.items s c.new-child.result call deep c.requires.memo child)
    c.call_memo.result c.call_memo.ensures.recalled

pub returns-in-Spawn-clause-nested : goal.returns-in-Spawn-clause-nested
returns-in-Spawn-clause-nested g c =
    let e = c.args.entrance in
    let s = c.args.self.now in
    let spawn : e.way ≡ Spawn = search rules in
    let deep : (s.top.left == 0) ≡ false = search rules in
    let child : c.new-child.result ≡ child_of e.callee c.args.slots.items s = search rules in
    either_on (g.K.KitSource.lacks c.args.kits.now) (GivesNone g.K.KitSource.gives c.args.kits.now)
    (c.push_spawned.new.self ≡ pushed c.new-child.result true e.into e.work AtSpawn s)
    (λ kit. c.push_spawned.new.self ≡ nested (lent c.args.setting) kit e.statement e.way e.into e.work e.callee c.args.slots.items s)
    (λ h kit. h ∙ nested_spawn (lent c.args.setting) kit e.statement e.way e.into e.work e.callee c.args.slots.items s c.new-child.result spawn deep child)
    c.push_spawned.result c.push_spawned.ensures.pushed
