use Rattle.std.proofs.Common.{rules, ◌≡◌, ◌∙◌, ap, subst, reverse}
use Rattle.evaluation.specs.Slots.{slots_for}
use Rattle.linked_program.specs.CodeView.{slots_of}
use Rattle.positions.specs.Strands.{PlainStrand}
use Rattle.positions.specs.Advance.{nested, with_arguments}
use Rattle.activations.specs.Given.{lent}
use Rattle.small_steps.specs.Steps.{GivesNone, HoldsBy}
use Rattle.small_steps.proofs.machine.Machine.nest_memo.Goals as goal

pub returns-in-Ok-clause-nested : goal.returns-in-Ok-clause-nested
returns-in-Ok-clause-nested g c =
    let e = c.args.entrance in
    let vs = c.args.numbers.now.items in
    let lacks = g.K.KitSource.lacks c.args.kits.now in
    let none = GivesNone g.K.KitSource.gives c.args.kits.now in
    let s : PlainStrand = record { start = c.self.inside.start; layer = c.self.inside.layer; lower = reverse c.self.inside.lower.items; path = c.self.inside.path.items; top = c.self.inside.top; below = reverse c.self.inside.below.items; phase = c.self.inside.phase; arguments = c.self.inside.arguments.items; tally = c.self.inside.tally } in
    let swapped : PlainStrand = record s { arguments = c.swap.new.x.items } in
    let is : swapped ≡ with_arguments vs c.args.self.now = ap (λ xs. record s { arguments = xs }) (ap (λ v. v.items) c.swap.ensures.x_after) ∙ ap (with_arguments vs) c.self.view_is in
    let slots : c.in_ok-slots.slots.items ≡ slots_for (slots_of c.args.setting.program.now.codes e.callee) vs = search rules in
    subst (λ (q : PlainStrand). HoldsBy lacks none (λ kit. c.nest_remembered.new.self ≡ nested (lent c.args.setting) kit e.statement e.way e.into e.work e.callee (slots_for (slots_of c.args.setting.program.now.codes e.callee) vs) q)) is
    (subst (λ xs. HoldsBy lacks none (λ kit. c.nest_remembered.new.self ≡ nested (lent c.args.setting) kit e.statement e.way e.into e.work e.callee xs swapped)) slots c.in-Ok.ensures.nested)
